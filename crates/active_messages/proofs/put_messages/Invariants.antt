use Rattle.std.proofs.Common.{◌≡◌, length}
use Rattle.active_messages.proofs.Sending.{Sending}
use Rattle.active_messages.proofs.put_messages.Given as goal

abbrev pub invariant-loop-found : goal.invariant-loop-found
invariant-loop-found l =
    let at = l.found-iterator.position in
    (goal.iterator-loop-found).can_next l.found-iterator × (goal.iterator-loop-found).is_finite l.found-iterator × (l.found-iterator.log ≡ l.log)
    × Sending l.limit (length l.log.bytes.now) l.log.max l.log.next l.log.words.now l.log.bytes.now l.fn.writer l.fn.position.left l.fn.position.dist l.fn.next l.writer at.left at.dist l.next l.sent
