use borrow.Author.Tests.{le-leb}
use Rattle.model_frame.specs.Reading.{hello_fields}
use Rattle.frame_reader.proofs.Faults.{passed_on}
use Rattle.frame.proofs.read_hello.Goals as goal

pub returns-in_err-version-clause-read : goal.returns-in_err-version-clause-read
unfolding hello_fields
returns-in_err-version-clause-read c = λ v. rw (← c.in_err-version.ensures.read, passed_on c.from_residual.result c.in_err-version.field-0.0 c.from_residual.ensures)

pub returns-in_err-epoch-clause-read : goal.returns-in_err-epoch-clause-read
unfolding hello_fields
returns-in_err-epoch-clause-read c = λ v. rw (← c.in_ok-version.ensures.read, ← c.in_err-epoch.ensures.read, passed_on c.from_residual-in_err-epoch.result c.in_err-epoch.field-0.0 c.from_residual-in_err-epoch.ensures)

pub returns-in_err-node-clause-read : goal.returns-in_err-node-clause-read
unfolding hello_fields
returns-in_err-node-clause-read c = λ v. rw (← c.in_ok-version.ensures.read, ← c.in_ok-epoch.ensures.read, ← c.in_err-node.ensures.read, passed_on c.from_residual-in_err-node.result c.in_err-node.field-0.0 c.from_residual-in_err-node.ensures)

pub returns-in_err-app_record_kinds-clause-read : goal.returns-in_err-app_record_kinds-clause-read
unfolding hello_fields
returns-in_err-app_record_kinds-clause-read c = λ v. rw (← c.in_ok-version.ensures.read, ← c.in_ok-epoch.ensures.read, ← c.in_ok-node.ensures.read, ← c.in_err-app_record_kinds.ensures.read, passed_on c.from_residual-in_err-app_record_kinds.result c.in_err-app_record_kinds.field-0.0 c.from_residual-in_err-app_record_kinds.ensures)

pub returns-clause-read : goal.returns-clause-read
unfolding hello_fields
returns-clause-read c = λ v. rw (← c.in_ok-version.ensures.read, ← c.in_ok-epoch.ensures.read, ← c.in_ok-node.ensures.read, ← c.in_ok-app_record_kinds.ensures.read, c.text.ensures.same, c.number-2.ensures.same, c.number.ensures.same)

pub returns-clause-stands : goal.returns-clause-stands
returns-clause-stands c = λ v. (rw (le-leb _ _ (rw (c.number-2.ensures.same, c.number.ensures.same) at c.in_ok-node.ensures.lies), rw (c.text.ensures.same, c.number-2.ensures.same, c.number.ensures.same) at c.in_ok-app_record_kinds.ensures.again), tt)
