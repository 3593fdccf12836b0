use Rattle.model_frame.specs.Reading.{nack_fields}
use Rattle.frame_reader.proofs.Faults.{passed_on}
use Rattle.frame.proofs.read_nack.Goals as goal

pub returns-in_err-handle-clause-read : goal.returns-in_err-handle-clause-read
unfolding nack_fields
returns-in_err-handle-clause-read c = λ v. rw (← c.in_err-handle.ensures.read, passed_on c.from_residual.result c.in_err-handle.field-0.0 c.from_residual.ensures)

pub returns-in_err-reason-clause-read : goal.returns-in_err-reason-clause-read
unfolding nack_fields
returns-in_err-reason-clause-read c = λ v. rw (← c.in_ok-handle.ensures.read, ← c.in_err-reason.ensures.read, passed_on c.from_residual-in_err-reason.result c.in_err-reason.field-0.0 c.from_residual-in_err-reason.ensures)

pub returns-clause-read : goal.returns-clause-read
unfolding nack_fields
returns-clause-read c = λ v. rw (← c.in_ok-handle.ensures.read, ← c.in_ok-reason.ensures.read)
