use Rattle.model_frame.specs.Reading.{read_body}
use Rattle.base_laws.proofs.Places.{left_none, left_some}
use Rattle.frame_reader.proofs.Faults.{passed_on}
use Rattle.frame.proofs.read_body.Goals as goal

pub returns-in_err-frame-clause-read : goal.returns-in_err-frame-clause-read
unfolding read_body
returns-in_err-frame-clause-read c = rw (← c.in_err-frame.ensures.read, passed_on c.from_residual.result c.in_err-frame.field-0.0 c.from_residual.ensures)

pub returns-then-left-eq0-clause-read : goal.returns-then-left-eq0-clause-read
unfolding read_body
returns-then-left-eq0-clause-read c = rw (← c.in_ok-frame.ensures.read, left_none _ _ c.left.ensures c.if-left-eq0.true)

pub returns-else-left-eq0-clause-read : goal.returns-else-left-eq0-clause-read
unfolding read_body
returns-else-left-eq0-clause-read c = rw (← c.in_ok-frame.ensures.read, left_some _ _ c.left.ensures c.if-left-eq0.false)
