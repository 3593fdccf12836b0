use Rattle.standby_segments.specs.Steps.{all_of, segments_left}
use Rattle.standby_segments.proofs.Following.{Fits}
use Rattle.standby_segments.proofs.segments.HeldChanges.fits.Given as goal

abbrev pub invariant-loop-segment : goal.invariant-loop-segment
invariant-loop-segment l = (goal.iterator-loop-segment).can_next l.segment-iterator × (goal.iterator-loop-segment).is_finite l.segment-iterator × Fits (all_of l.self) l.next_outgoing l.next (segments_left l.segment-iterator)
