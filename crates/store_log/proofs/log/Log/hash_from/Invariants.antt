use Rattle.std.proofs.Common.{◌≡◌}
use Rattle.store_log.proofs.Summing.{Hashing}
use Rattle.store_log.proofs.log.Log.hash_from.Given as goal

abbrev pub invariant-loop-found : goal.invariant-loop-found
invariant-loop-found l = (goal.iterator-loop-found).can_next l.found-iterator × (goal.iterator-loop-found).is_finite l.found-iterator × (l.found-iterator.log ≡ l.self)
    × Hashing l.self.max l.self.next l.self.words.now l.self.bytes.now l.low l.hash l.found-iterator.position.left l.found-iterator.position.dist
