use Rattle.std.proofs.Common.{arith}
use mathlib.Core.Path.{◌∙◌}
use Rattle.model_frame.specs.Sizes.{sizes}
use Rattle.model_frame.proofs.Le.{are_bytes}
use Rattle.frame_op.specs.Answers.{held_run}
use Rattle.standby_segments.proofs.Turns.{counted, counted_within}
use Rattle.standby_segments.proofs.held_length.Goals as goal

pub overflow_add-result : goal.overflow_add-result
overflow_add-result c =
    let all = counted_within c.args.protocol.version c.args.ends.now c.args.bytes.now (are_bytes c.args.bytes.now (λ i. (c.type_inv.bytes i).fits)) c.open_segment-from.ensures.from (c.run_length.ensures ∙ (λ j. sizes (held_run (c.new.ensures.protocol j).version (c.new.ensures.run j)))) in
    omega (arith, all)

pub returns-clause-is : goal.returns-clause-is
returns-clause-is c = counted c.args.protocol.version c.args.ends.now c.args.bytes.now (are_bytes c.args.bytes.now (λ i. (c.type_inv.bytes i).fits)) c.open_segment-from.ensures.from (c.run_length.ensures ∙ (λ j. sizes (held_run (c.new.ensures.protocol j).version (c.new.ensures.run j))))

pub returns-clause-within : goal.returns-clause-within
returns-clause-within c = counted_within c.args.protocol.version c.args.ends.now c.args.bytes.now (are_bytes c.args.bytes.now (λ i. (c.type_inv.bytes i).fits)) c.open_segment-from.ensures.from (c.run_length.ensures ∙ (λ j. sizes (held_run (c.new.ensures.protocol j).version (c.new.ensures.run j))))
