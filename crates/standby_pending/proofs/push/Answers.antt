use Rattle.std.proofs.Common.{arith, refl}
use Rattle.standby_pending.proofs.Laws.{pushed}
use Rattle.standby_pending.proofs.push.Goals as goal

pub returns-clause-pends : goal.returns-clause-pends
returns-clause-pends c = pushed c.args.words.now _ c.args.place c.args.handle (omega arith) refl (omega arith) (omega arith)
