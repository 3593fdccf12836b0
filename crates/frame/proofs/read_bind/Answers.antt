use borrow.Author.Tests.{le-leb}
use Rattle.model_frame.specs.Reading.{bind_fields}
use Rattle.frame_reader.proofs.Faults.{passed_on}
use Rattle.frame.proofs.read_bind.Goals as goal

pub returns-in_err-handle-clause-read : goal.returns-in_err-handle-clause-read
unfolding bind_fields
returns-in_err-handle-clause-read c = λ v. rw (← c.in_err-handle.ensures.read, passed_on c.from_residual.result c.in_err-handle.field-0.0 c.from_residual.ensures)

pub returns-in_err-epoch-clause-read : goal.returns-in_err-epoch-clause-read
unfolding bind_fields
returns-in_err-epoch-clause-read c = λ v. rw (← c.in_ok-handle.ensures.read, ← c.in_err-epoch.ensures.read, passed_on c.from_residual-in_err-epoch.result c.in_err-epoch.field-0.0 c.from_residual-in_err-epoch.ensures)

pub returns-in_err-max_lag-clause-read : goal.returns-in_err-max_lag-clause-read
unfolding bind_fields
returns-in_err-max_lag-clause-read c = λ v. rw (← c.in_ok-handle.ensures.read, ← c.in_ok-epoch.ensures.read, ← c.in_err-max_lag.ensures.read, passed_on c.from_residual-in_err-max_lag.result c.in_err-max_lag.field-0.0 c.from_residual-in_err-max_lag.ensures)

pub returns-in_err-session-clause-read : goal.returns-in_err-session-clause-read
unfolding bind_fields
returns-in_err-session-clause-read c = λ v. rw (← c.in_ok-handle.ensures.read, ← c.in_ok-epoch.ensures.read, ← c.in_ok-max_lag.ensures.read, ← c.in_err-session.ensures.read, passed_on c.from_residual-in_err-session.result c.in_err-session.field-0.0 c.from_residual-in_err-session.ensures)

pub returns-clause-read : goal.returns-clause-read
unfolding bind_fields
returns-clause-read c = λ v. rw (← c.in_ok-handle.ensures.read, ← c.in_ok-epoch.ensures.read, ← c.in_ok-max_lag.ensures.read, ← c.in_ok-session.ensures.read, c.number-3.ensures.same, c.number-2.ensures.same, c.number.ensures.same)

pub returns-clause-stands : goal.returns-clause-stands
returns-clause-stands c = let k = rw (c.number-3.ensures.same, c.number-2.ensures.same, c.number.ensures.same) at c.in_ok-session.ensures.lies in λ v. (rw (le-leb _ _ k.0, le-leb _ _ k.1, le-leb _ _ k.2, le-leb _ _ k.3), tt)
