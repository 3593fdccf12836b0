use Rattle.standby_segments.specs.Steps.{run_of, ops_left}
use Rattle.standby_segments.proofs.Following.{Following}
use Rattle.standby_segments.proofs.segments.Segment.follow.Given as goal

abbrev pub invariant-loop-op : goal.invariant-loop-op
invariant-loop-op l = (goal.iterator-loop-op).can_next l.op-iterator × (goal.iterator-loop-op).is_finite l.op-iterator × Following (run_of l.self) l.next_outgoing l.next (ops_left l.op-iterator)
