use Rattle.std.proofs.Common.{arith, List}
use Rattle.model_frame.specs.Frame.{Change}
use Rattle.active_messages.specs.Cut.{taken}
use Rattle.active_header.specs.Ends.{opening_of, ending_of}
use Rattle.active_header.proofs.Ends.{run_past}
use Rattle.active_batch.specs.Batch.{messages_left}
use Rattle.active_batch.proofs.Framing.{put_three, three_sizes}
use Rattle.active_batch.proofs.put_changes.Goals.{Start}
use Rattle.active_batch.proofs.put_changes.Goals as goal

-- the three runs of changes
abbrev opening : (c : Start) → List Change
opening c = opening_of c.args.header.now.stamp.now c.args.batch.from

abbrev messages : (c : Start) → List Change
messages c = taken c.args.batch.limit 0 c.args.plan.next (messages_left c.args.batch.limit c.args.header.now c.args.log.now c.args.plan.position)

abbrev ending : (c : Start) → List Change
ending c = ending_of c.args.header.now c.args.plan.last c.args.plan.resume_from

pub put_messages-requires-clause-left_in_bounds : goal.put_messages-requires-clause-left_in_bounds
put_messages-requires-clause-left_in_bounds c =
    let s = (goal.at.put_messages-requires-clause-left_in_bounds c).Start in
    omega (arith, c.requires.plan_in_bounds, three_sizes (opening s) (messages s) (ending s), run_past (opening s) c.put_opening.ensures, c.put_opening.ensures.long)

pub put_ending-requires : goal.put_ending-requires
put_ending-requires c =
    let s = (goal.at.put_ending-requires c).Start in
    omega (arith, c.requires.plan_in_bounds, three_sizes (opening s) (messages s) (ending s), run_past (opening s) c.put_opening.ensures, run_past (messages s) c.put_messages.ensures, c.put_opening.ensures.long, c.put_messages.ensures.long)

pub returns : goal.returns
returns c =
    let s = (goal.at.returns c).Start in
    put_three (opening s) (messages s) (ending s) c.put_opening.ensures c.put_messages.ensures c.put_ending.ensures
