use Rattle.standby_apply.proofs.Laws.{stamp_kept}
use Rattle.standby_apply.proofs.apply.Goals as goal

pub set_created_at-requires-clause-text_value : goal.set_created_at-requires-clause-text_value
set_created_at-requires-clause-text_value c = rw c.slice-in-SetCreatedAt.ensures (stamp_kept c.args.changes.now.run.now c.args.op c.args.changes.now.protocol.version c.in-SetCreatedAt.is c.requires.op_value)
