use Rattle.std.specs.Prelude.{◌+◌, length}
use Rattle.active_messages.proofs.Counting.{Counting}
use Rattle.active_messages.proofs.batches.Given as goal

abbrev pub invariant-loop-cut : goal.invariant-loop-cut
invariant-loop-cut l =
    let log = l.log in
    Counting l.limit (length log.bytes.now) log.max log.next log.words.now log.bytes.now l.cut.position.left l.cut.position.dist l.count

abbrev pub decreases-loop-cut : goal.decreases-loop-cut
decreases-loop-cut l = l.cut.position.left + l.cut.position.dist
