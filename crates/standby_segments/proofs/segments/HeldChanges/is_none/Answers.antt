use mathlib.Core.Path.{◌∙◌}
use Rattle.model_frame.specs.Parse.{is_empty}
use Rattle.frame_op.specs.Answers.{held_run}
use Rattle.standby_segments.proofs.Turns.{none_first, some_first, no_bytes}
use Rattle.standby_segments.proofs.segments.HeldChanges.is_none.Goals as goal

pub returns-then-open_segment-eq0 : goal.returns-then-open_segment-eq0
returns-then-open_segment-eq0 c =
    c.is_none.ensures
    ∙ (λ j. is_empty (held_run (c.new.ensures.protocol j).version (c.new.ensures.run j)))
    ∙ none_first c.args.self.now.protocol.version c.args.self.now.ends.now c.args.self.now.bytes.now c.args.self.now.octets c.open_segment.ensures.from c.if-open_segment-eq0.true

pub returns-else-open_segment-eq0 : goal.returns-else-open_segment-eq0
returns-else-open_segment-eq0 c = some_first c.args.self.now.protocol.version c.args.self.now.ends.now c.args.self.now.bytes.now c.args.self.now.octets c.open_segment.ensures.from c.if-open_segment-eq0.false

pub returns-then-is_empty : goal.returns-then-is_empty
returns-then-is_empty c = no_bytes c.args.self.now.protocol.version c.args.self.now.ends.now c.args.self.now.bytes.now c.if-is_empty.ensures
