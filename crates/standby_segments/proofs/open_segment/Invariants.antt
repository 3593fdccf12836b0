use Rattle.std.proofs.Common.{length, ◌-◌}
use Rattle.standby_segments.proofs.Ends.{Walk}
use Rattle.standby_segments.proofs.open_segment.Given as goal

abbrev pub invariant-loop-end : goal.invariant-loop-end
invariant-loop-end l = Walk l.ends l.len l.segment.index l.segment.from

abbrev pub decreases-loop-end : goal.decreases-loop-end
decreases-loop-end l = length l.ends - l.segment.index
