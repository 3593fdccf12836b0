use mathlib.Core.Path.{sym}
use Rattle.frame_reader.proofs.Faults.{passed_on}
use Rattle.frame_op.proofs.read_run.Goals as goal

pub returns-in_err-count-clause-read : goal.returns-in_err-count-clause-read
returns-in_err-count-clause-read g c = rw (← c.LEAST.ensures, ← c.in_err-count.ensures.read, passed_on c.from_residual.result c.in_err-count.field-0.0 c.from_residual.ensures)

pub returns-in_err-len-clause-read : goal.returns-in_err-len-clause-read
returns-in_err-len-clause-read g c = rw (← c.LEAST.ensures, ← c.in_ok-count.ensures.read, passed_on c.from_residual-in_err-len.result c.in_err-len.field-0.0 c.from_residual-in_err-len.ensures) (sym c.in_err-len.ensures)

pub returns-clause-read : goal.returns-clause-read
returns-clause-read g c = rw (← c.LEAST.ensures, ← c.in_ok-count.ensures.read, ← c.count.ensures.same) (sym c.in_ok-len.ensures.0)
