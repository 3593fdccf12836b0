use Rattle.std.proofs.Common.{arith}
use Rattle.standby_pending.proofs.Laws.{cleared}
use Rattle.standby_pending.proofs.clear.Goals as goal

pub returns-clause-none : goal.returns-clause-none
returns-clause-none c = cleared c.args.words.now (omega arith)
