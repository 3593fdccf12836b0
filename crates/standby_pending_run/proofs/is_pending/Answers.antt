use Rattle.std.proofs.Common.{arith}
use Rattle.standby_pending_run.proofs.Due.{some_pending}
use Rattle.standby_pending_run.proofs.is_pending.Goals as goal

pub returns : goal.returns
returns c = some_pending c.args.words.now (omega arith)
