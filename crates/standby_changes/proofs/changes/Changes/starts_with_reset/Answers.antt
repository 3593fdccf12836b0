use Rattle.std.proofs.Common.{◌∙◌}
use Rattle.standby_changes.proofs.Steps.{reset_told}
use Rattle.standby_changes.proofs.changes.Changes.starts_with_reset.Goals as goal

pub returns : goal.returns
returns c = c.eq.ensures ∙ reset_told c.args.self.now c.iter.result c.next.new.self c.iter.ensures _ c.next.ensures.steps
