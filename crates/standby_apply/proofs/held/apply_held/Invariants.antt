use Rattle.standby_segments.specs.Steps.{all_of, segments_left}
use Rattle.standby_apply.proofs.HeldLoop.{Making}
use Rattle.standby_apply.proofs.held.apply_held.Given as goal

abbrev pub invariant-loop-segment : goal.invariant-loop-segment
invariant-loop-segment l = (goal.iterator-loop-segment).can_next l.segment-iterator × (goal.iterator-loop-segment).is_finite l.segment-iterator
    × Making 0 l.max (all_of l.held) l.initial.words l.initial.bytes l.words l.bytes (segments_left l.segment-iterator)
