use Rattle.std.proofs.Common.{arith}
use Rattle.standby_pending_run.proofs.Turns.{starts, goes_on, ends}
use Rattle.standby_pending_run.proofs.run.Goals as goal

pub loop-i-init : goal.loop-i-init
loop-i-init c = starts _ _ _ c.requires

pub loop-i-preserved : goal.loop-i-preserved
loop-i-preserved c = goes_on _ _ _ _ _ _ c.loop-i.invariant (omega arith) c.mark_used.ensures

pub returns : goal.returns
returns c = ends _ _ _ _ _ c.loop-i.invariant (omega arith)
