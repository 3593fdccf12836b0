use Rattle.std.proofs.Common.{arith}
use Rattle.c_stored.proofs.Laws.{both_told}
use Rattle.c_stored.proofs.put_parts.Goals as goal

pub returns : goal.returns
returns c = rw (← c.slice-head.ensures, ← c.slice-tail.ensures) (both_told (omega (arith, c.if-out-head.false)) c.copy-between.ensures c.copy-end.ensures c.done.ensures)
