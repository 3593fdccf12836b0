use Rattle.std.proofs.Common.{◌≡◌}
use Rattle.frame_reader.specs.Answers.{rest}
use Rattle.standby_changes.proofs.Loops.{Summing}
use Rattle.standby_changes.proofs.changes.Changes.message_bytes.Given as goal

abbrev pub invariant-loop-op : goal.invariant-loop-op
invariant-loop-op l = (goal.iterator-loop-op).can_next l.op-iterator × (goal.iterator-loop-op).is_finite l.op-iterator × (l.op-iterator.protocol ≡ l.self.protocol) × (l.op-iterator.reader.buf.now ≡ l.self.run.now)
    × Summing l.self.protocol.version l.self.run.now l.sum (rest l.op-iterator.reader)
