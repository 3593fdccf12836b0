use Rattle.std.proofs.Common.{sym}
use Rattle.standby_changes.proofs.Steps.{none_told}
use Rattle.standby_changes.proofs.changes.Changes.is_none.Goals as goal

pub returns : goal.returns
returns c = none_told c.args.self.now c.iter.result c.next.new.self c.iter.ensures _ (sym c.is_none.ensures) c.next.ensures.steps
