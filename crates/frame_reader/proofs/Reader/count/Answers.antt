use Rattle.model_frame.specs.Parse.{read_count}
use Rattle.base_laws.proofs.Places.{enough, lacking}
use Rattle.frame_reader.proofs.Faults.{passed_on}
use Rattle.frame_reader.proofs.Reader.count.Goals as goal

pub returns-in_err-count-clause-read : goal.returns-in_err-count-clause-read
unfolding read_count
returns-in_err-count-clause-read c = rw (← c.in_err-count.ensures.read, passed_on c.from_residual.result c.in_err-count.field-0.0 c.from_residual.ensures)

pub returns-then-count-min-clause-read : goal.returns-then-count-min-clause-read
unfolding read_count
returns-then-count-min-clause-read c = rw (← c.in_ok-count.ensures.read, enough _ _ _ c.left.ensures c.if-count-min.true)

pub returns-else-count-min-clause-read : goal.returns-else-count-min-clause-read
unfolding read_count
returns-else-count-min-clause-read c = rw (← c.in_ok-count.ensures.read, lacking _ _ _ c.left.ensures c.if-count-min.false)
