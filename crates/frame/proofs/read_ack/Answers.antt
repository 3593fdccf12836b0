use Rattle.model_frame.specs.Reading.{ack_fields}
use Rattle.frame_reader.proofs.Faults.{passed_on}
use Rattle.frame.proofs.read_ack.Goals as goal

pub returns-in_err-handle-clause-read : goal.returns-in_err-handle-clause-read
unfolding ack_fields
returns-in_err-handle-clause-read c = λ v. rw (← c.in_err-handle.ensures.read, passed_on c.from_residual.result c.in_err-handle.field-0.0 c.from_residual.ensures)

pub returns-in_err-commit_no-clause-read : goal.returns-in_err-commit_no-clause-read
unfolding ack_fields
returns-in_err-commit_no-clause-read c = λ v. rw (← c.in_ok-handle.ensures.read, ← c.in_err-commit_no.ensures.read, passed_on c.from_residual-in_err-commit_no.result c.in_err-commit_no.field-0.0 c.from_residual-in_err-commit_no.ensures)

pub returns-clause-read : goal.returns-clause-read
unfolding ack_fields
returns-clause-read c = λ v. rw (← c.in_ok-handle.ensures.read, ← c.in_ok-commit_no.ensures.read)
