use Rattle.standby_segments.specs.Steps.{run_of}
use Rattle.standby_apply.proofs.HeldLoop.{front_fits, made_on}
use Rattle.standby_apply.proofs.held.apply_held.Goals as goal

pub apply_segment-requires-clause-run_value : goal.apply_segment-requires-clause-run_value
apply_segment-requires-clause-run_value c = front_fits 0 c.args.max (run_of c.in-Some.segment) _ c.loop-segment.invariant.2 c.in-Some.ensures.steps.1.1

pub loop-segment-preserved : goal.loop-segment-preserved
loop-segment-preserved c = (tt, tt, made_on 0 c.args.max (run_of c.in-Some.segment) _ c.loop-segment.invariant.2 c.in-Some.ensures.steps.1.1 c.apply_segment.auto.words c.apply_segment.auto.bytes c.requires.in_bounds c.apply_segment.ensures)
