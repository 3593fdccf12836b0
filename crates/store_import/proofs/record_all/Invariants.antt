use Rattle.std.proofs.Common.{◌-◌, length}
use Rattle.store_areas.specs.Same.{SameAreas}
use Rattle.store_import.proofs.Recording.{Recording}
use Rattle.store_import.proofs.record_all.Given as goal

abbrev pub invariant-loop-at : goal.invariant-loop-at
invariant-loop-at l = Recording l.fn.store.shape l.place l.file l.fn.store.words.now l.fn.store.bytes.now l.store.words.now l.store.bytes.now l.at l.last × SameAreas l.fn.store l.store

abbrev pub decreases-loop-at : goal.decreases-loop-at
decreases-loop-at l = length l.file - l.at
