use Rattle.store_areas.specs.Same.{SameAreas}
use Rattle.store_sessions.proofs.Promoting.{Promoting}
use Rattle.store_sessions.proofs.take_over_all.Given as goal

abbrev pub invariant-loop-i : goal.invariant-loop-i
invariant-loop-i l = Promoting l.fn.store.shape l.lag l.fn.store.words.now l.fn.store.bytes.now l.store.words.now l.store.bytes.now l.i × SameAreas l.fn.store l.store
