use Rattle.std.proofs.Common.{◌≡◌, length}
use Rattle.active_messages.proofs.Measuring.{Measuring}
use Rattle.active_messages.proofs.measure.Given as goal

abbrev pub invariant-loop-found : goal.invariant-loop-found
invariant-loop-found l =
    (goal.iterator-loop-found).can_next l.found-iterator × (goal.iterator-loop-found).is_finite l.found-iterator × (l.found-iterator.log ≡ l.log) × (l.found-iterator.position ≡ l.end)
    × Measuring l.limit (length l.log.bytes.now) l.log.max l.log.next l.log.words.now l.log.bytes.now l.fn.position.left l.fn.position.dist l.fn.next l.end.left l.end.dist l.next l.count l.size l.sent
