use Rattle.standby_pending_run.proofs.Turns.{Running}
use Rattle.standby_pending_run.proofs.run.Given as goal

abbrev pub invariant-loop-i : goal.invariant-loop-i
invariant-loop-i l = Running l.fn.shape l.fn.bytes l.fn.words l.words l.i
