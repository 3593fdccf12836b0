use borrow.Author.Tests.{le-leb}
use Rattle.model_frame.specs.Reading.{bound_fields}
use Rattle.frame_reader.proofs.Faults.{passed_on}
use Rattle.frame.proofs.read_bound.Goals as goal

pub returns-in_err-handle-clause-read : goal.returns-in_err-handle-clause-read
unfolding bound_fields
returns-in_err-handle-clause-read c = λ v. rw (← c.in_err-handle.ensures.read, passed_on c.from_residual.result c.in_err-handle.field-0.0 c.from_residual.ensures)

pub returns-in_err-summary-clause-read : goal.returns-in_err-summary-clause-read
unfolding bound_fields
returns-in_err-summary-clause-read c = λ v. rw (← c.in_ok-handle.ensures.read, ← c.in_err-summary.ensures.read, passed_on c.from_residual-in_err-summary.result c.in_err-summary.field-0.0 c.from_residual-in_err-summary.ensures)

pub returns-clause-read : goal.returns-clause-read
unfolding bound_fields
returns-clause-read c = λ v. rw (← c.in_ok-handle.ensures.read, ← c.in_ok-summary.ensures.read, c.number.ensures.same)

pub returns-clause-stands : goal.returns-clause-stands
returns-clause-stands c = let m = rw c.number.ensures.same at c.in_ok-summary.ensures.lies in λ v. (rw (le-leb _ _ m.0, le-leb _ _ m.1), tt)
