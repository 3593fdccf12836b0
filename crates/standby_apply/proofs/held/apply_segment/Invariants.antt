use Rattle.std.proofs.Common.{◌≡◌}
use Rattle.standby_segments.specs.Steps.{run_of, ops_left}
use Rattle.standby_apply.proofs.HeldLoop.{Making}
use Rattle.standby_apply.proofs.held.apply_segment.Given as goal

abbrev pub invariant-loop-op : goal.invariant-loop-op
invariant-loop-op l = (goal.iterator-loop-op).can_next l.op-iterator × (goal.iterator-loop-op).is_finite l.op-iterator × (l.op-iterator.protocol ≡ l.segment.protocol) × (l.op-iterator.reader.buf.now ≡ l.segment.bytes.now)
    × Making l.segment.protocol.version l.max (run_of l.segment) l.initial.words l.initial.bytes l.words l.bytes (ops_left l.op-iterator)
