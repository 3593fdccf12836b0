use Rattle.model_frame.specs.Reading.{checked_fields}
use Rattle.frame_reader.proofs.Faults.{passed_on}
use Rattle.frame.proofs.read_checked.Goals as goal

pub returns-in_err-handle-clause-read : goal.returns-in_err-handle-clause-read
unfolding checked_fields
returns-in_err-handle-clause-read c = λ v. rw (← c.in_err-handle.ensures.read, passed_on c.from_residual.result c.in_err-handle.field-0.0 c.from_residual.ensures)

pub returns-in_err-epoch-clause-read : goal.returns-in_err-epoch-clause-read
unfolding checked_fields
returns-in_err-epoch-clause-read c = λ v. rw (← c.in_ok-handle.ensures.read, ← c.in_err-epoch.ensures.read, passed_on c.from_residual-in_err-epoch.result c.in_err-epoch.field-0.0 c.from_residual-in_err-epoch.ensures)

pub returns-in_err-incarnation-clause-read : goal.returns-in_err-incarnation-clause-read
unfolding checked_fields
returns-in_err-incarnation-clause-read c = λ v. rw (← c.in_ok-handle.ensures.read, ← c.in_ok-epoch.ensures.read, ← c.in_err-incarnation.ensures.read, passed_on c.from_residual-in_err-incarnation.result c.in_err-incarnation.field-0.0 c.from_residual-in_err-incarnation.ensures)

pub returns-clause-read : goal.returns-clause-read
unfolding checked_fields
returns-clause-read c = λ v. rw (← c.in_ok-handle.ensures.read, ← c.in_ok-epoch.ensures.read, ← c.in_ok-incarnation.ensures.read)
