use Rattle.std.proofs.Common.{◌≡◌}
use Rattle.frame_reader.specs.Answers.{rest}
use Rattle.standby_apply.proofs.Loop.{Applying}
use Rattle.standby_apply.proofs.apply_all.Given as goal

abbrev pub invariant-loop-op : goal.invariant-loop-op
invariant-loop-op l = (goal.iterator-loop-op).can_next l.op-iterator × (goal.iterator-loop-op).is_finite l.op-iterator × (l.op-iterator.protocol ≡ l.changes.protocol) × (l.op-iterator.reader.buf.now ≡ l.changes.run.now)
    × Applying l.changes.protocol.version l.max l.changes.run.now l.initial.words l.initial.bytes l.words l.bytes (rest l.op-iterator.reader)
