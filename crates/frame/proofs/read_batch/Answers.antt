use Rattle.model_frame.specs.Reading.{read_changes, read_app_records, batch_fields}
use Rattle.frame_reader.proofs.Faults.{passed_on}
use mathlib.Core.Path.{◌∙◌}
use Rattle.model_frame.proofs.Sizes.{changes_size}
use Rattle.frame.proofs.read_batch.Goals as goal

pub returns-in_err-handle-clause-read : goal.returns-in_err-handle-clause-read
unfolding batch_fields
returns-in_err-handle-clause-read c = rw (← c.in_err-handle.ensures.read, passed_on c.from_residual.result c.in_err-handle.field-0.0 c.from_residual.ensures)

pub returns-in_err-epoch-clause-read : goal.returns-in_err-epoch-clause-read
unfolding batch_fields
returns-in_err-epoch-clause-read c = rw (← c.in_ok-handle.ensures.read, ← c.in_err-epoch.ensures.read, passed_on c.from_residual-in_err-epoch.result c.in_err-epoch.field-0.0 c.from_residual-in_err-epoch.ensures)

pub returns-in_err-commit_no-clause-read : goal.returns-in_err-commit_no-clause-read
unfolding batch_fields
returns-in_err-commit_no-clause-read c = rw (← c.in_ok-handle.ensures.read, ← c.in_ok-epoch.ensures.read, ← c.in_err-commit_no.ensures.read, passed_on c.from_residual-in_err-commit_no.result c.in_err-commit_no.field-0.0 c.from_residual-in_err-commit_no.ensures)

pub returns-in_err-part-clause-read : goal.returns-in_err-part-clause-read
unfolding batch_fields
returns-in_err-part-clause-read c = rw (← c.in_ok-handle.ensures.read, ← c.in_ok-epoch.ensures.read, ← c.in_ok-commit_no.ensures.read, ← c.in_err-part.ensures.read, passed_on c.from_residual-in_err-part.result c.in_err-part.field-0.0 c.from_residual-in_err-part.ensures)

pub returns-in_err-ops-clause-read : goal.returns-in_err-ops-clause-read
unfolding batch_fields read_changes
returns-in_err-ops-clause-read c = rw (← c.in_ok-handle.ensures.read, ← c.in_ok-epoch.ensures.read, ← c.in_ok-commit_no.ensures.read, ← c.in_ok-part.ensures.read, ← c.in_err-ops.ensures.read, passed_on c.from_residual-in_err-ops.result c.in_err-ops.field-0.0 c.from_residual-in_err-ops.ensures)

pub returns-in_err-app_records-clause-read : goal.returns-in_err-app_records-clause-read
unfolding batch_fields read_changes read_app_records
returns-in_err-app_records-clause-read c = rw (← c.in_ok-handle.ensures.read, ← c.in_ok-epoch.ensures.read, ← c.in_ok-commit_no.ensures.read, ← c.in_ok-part.ensures.read, ← c.in_ok-ops.ensures.read, ← c.in_err-app_records.ensures.read, passed_on c.from_residual-in_err-app_records.result c.in_err-app_records.field-0.0 c.from_residual-in_err-app_records.ensures)

pub returns-clause-read : goal.returns-clause-read
unfolding batch_fields read_changes read_app_records
returns-clause-read c = rw (← c.in_ok-handle.ensures.read, ← c.in_ok-epoch.ensures.read, ← c.in_ok-commit_no.ensures.read, ← c.in_ok-part.ensures.read, ← c.in_ok-ops.ensures.read, ← c.in_ok-app_records.ensures.read, c.read_run.ensures.same, c.read_part.ensures.same, c.number-3.ensures.same, c.number-2.ensures.same, c.number.ensures.same)

pub returns-clause-stands : goal.returns-clause-stands
returns-clause-stands c = (rw (rw (c.read_part.ensures.same, c.number-3.ensures.same, c.number-2.ensures.same, c.number.ensures.same) at c.in_ok-ops.ensures.again, rw (c.read_run.ensures.same, c.read_part.ensures.same, c.number-3.ensures.same, c.number-2.ensures.same, c.number.ensures.same) at c.in_ok-app_records.ensures.again), (rw (c.read_part.ensures.same, c.number-3.ensures.same, c.number-2.ensures.same, c.number.ensures.same) at c.in_ok-ops.ensures.sized) ∙ changes_size _)
