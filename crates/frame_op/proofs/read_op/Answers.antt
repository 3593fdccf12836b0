use Rattle.std.proofs.Common.{arith}
use Rattle.model_frame.specs.Reading.{read_change, set_incoming_fields, set_incoming_in_flight_fields, set_in_flight_fields, record_msg_fields, record_bare_fields, set_created_at_fields, set_marks_fields}
use borrow.Author.Tests.{ne_eqb}
use Rattle.frame_reader.proofs.Faults.{passed_on}
use Rattle.frame_op.proofs.read_op.Goals as goal

pub returns-in_err-k-clause-read : goal.returns-in_err-k-clause-read
unfolding read_change
returns-in_err-k-clause-read c = rw (← c.in_err-k.ensures.read, passed_on c.from_residual.result c.in_err-k.field-0.0 c.from_residual.ensures)

pub returns-in_err-number-in-1-clause-read : goal.returns-in_err-number-in-1-clause-read
unfolding read_change set_incoming_fields
returns-in_err-number-in-1-clause-read c = rw (← c.in_ok-k.ensures.read, c.in-1.is, ← c.in_err-number-in-1.ensures.read, passed_on c.from_residual-in_err-number-in-1.result c.in_err-number-in-1.field-0.0 c.from_residual-in_err-number-in-1.ensures)

pub returns-in_ok-number-in-1-clause-read : goal.returns-in_ok-number-in-1-clause-read
unfolding read_change set_incoming_fields
returns-in_ok-number-in-1-clause-read c = rw (← c.in_ok-k.ensures.read, c.in-1.is, ← c.in_ok-number-in-1.ensures.read)

pub returns-in_err-number-in-2-clause-read : goal.returns-in_err-number-in-2-clause-read
unfolding read_change set_incoming_in_flight_fields
returns-in_err-number-in-2-clause-read c = rw (← c.in_ok-k.ensures.read, c.in-2.is, ← c.in_err-number-in-2.ensures.read, passed_on c.from_residual-in_err-number-in-2.result c.in_err-number-in-2.field-0.0 c.from_residual-in_err-number-in-2.ensures)

pub returns-in_err-number-in-2-2-clause-read : goal.returns-in_err-number-in-2-2-clause-read
unfolding read_change set_incoming_in_flight_fields
returns-in_err-number-in-2-2-clause-read c = rw (← c.in_ok-k.ensures.read, c.in-2.is, ← c.in_ok-number-in-2.ensures.read, ← c.in_err-number-in-2-2.ensures.read, passed_on c.from_residual-in_err-number-in-2-2.result c.in_err-number-in-2-2.field-0.0 c.from_residual-in_err-number-in-2-2.ensures)

pub returns-in_ok-number-in-2-2-clause-read : goal.returns-in_ok-number-in-2-2-clause-read
unfolding read_change set_incoming_in_flight_fields
returns-in_ok-number-in-2-2-clause-read c = rw (← c.in_ok-k.ensures.read, c.in-2.is, ← c.in_ok-number-in-2.ensures.read, ← c.in_ok-number-in-2-2.ensures.read)

pub returns-in_err-number-in-3-clause-read : goal.returns-in_err-number-in-3-clause-read
unfolding read_change set_in_flight_fields
returns-in_err-number-in-3-clause-read c = rw (← c.in_ok-k.ensures.read, c.in-3.is, ← c.in_err-number-in-3.ensures.read, passed_on c.from_residual-in_err-number-in-3.result c.in_err-number-in-3.field-0.0 c.from_residual-in_err-number-in-3.ensures)

pub returns-in_ok-number-in-3-clause-read : goal.returns-in_ok-number-in-3-clause-read
unfolding read_change set_in_flight_fields
returns-in_ok-number-in-3-clause-read c = rw (← c.in_ok-k.ensures.read, c.in-3.is, ← c.in_ok-number-in-3.ensures.read)

pub returns-in_err-number-in-4-clause-read : goal.returns-in_err-number-in-4-clause-read
unfolding read_change record_msg_fields
returns-in_err-number-in-4-clause-read c = rw (← c.in_ok-k.ensures.read, c.in-4.is, ← c.in_err-number-in-4.ensures.read, passed_on c.from_residual-in_err-number-in-4.result c.in_err-number-in-4.field-0.0 c.from_residual-in_err-number-in-4.ensures)

pub returns-in_err-blob-in-4-clause-read : goal.returns-in_err-blob-in-4-clause-read
unfolding read_change record_msg_fields
returns-in_err-blob-in-4-clause-read c = rw (← c.in_ok-k.ensures.read, c.in-4.is, ← c.in_ok-number-in-4.ensures.read, ← c.in_err-blob-in-4.ensures.read, passed_on c.from_residual-in_err-blob-in-4.result c.in_err-blob-in-4.field-0.0 c.from_residual-in_err-blob-in-4.ensures)

pub returns-in_ok-blob-in-4-clause-read : goal.returns-in_ok-blob-in-4-clause-read
unfolding read_change record_msg_fields
returns-in_ok-blob-in-4-clause-read c = rw (← c.in_ok-k.ensures.read, c.in-4.is, ← c.in_ok-number-in-4.ensures.read, ← c.in_ok-blob-in-4.ensures.read, c.number-in-4.ensures.same, c.number.ensures.same)

pub returns-in_err-number-in-5-clause-read : goal.returns-in_err-number-in-5-clause-read
unfolding read_change record_bare_fields
returns-in_err-number-in-5-clause-read c = rw (← c.in_ok-k.ensures.read, c.in-5.is, ← c.in_err-number-in-5.ensures.read, passed_on c.from_residual-in_err-number-in-5.result c.in_err-number-in-5.field-0.0 c.from_residual-in_err-number-in-5.ensures)

pub returns-in_ok-number-in-5-clause-read : goal.returns-in_ok-number-in-5-clause-read
unfolding read_change record_bare_fields
returns-in_ok-number-in-5-clause-read c = rw (← c.in_ok-k.ensures.read, c.in-5.is, ← c.in_ok-number-in-5.ensures.read)

pub returns-in_err-stamp-in-7-clause-read : goal.returns-in_err-stamp-in-7-clause-read
unfolding read_change set_created_at_fields
returns-in_err-stamp-in-7-clause-read c = rw (← c.in_ok-k.ensures.read, c.in-7.is, ← c.in_err-stamp-in-7.ensures.read, passed_on c.from_residual-in_err-stamp-in-7.result c.in_err-stamp-in-7.field-0.0 c.from_residual-in_err-stamp-in-7.ensures)

pub returns-in_ok-stamp-in-7-clause-read : goal.returns-in_ok-stamp-in-7-clause-read
unfolding read_change set_created_at_fields
returns-in_ok-stamp-in-7-clause-read c = rw (← c.in_ok-k.ensures.read, c.in-7.is, ← c.in_ok-stamp-in-7.ensures.read, c.number.ensures.same)

pub returns-in_err-marks-in-8-clause-read : goal.returns-in_err-marks-in-8-clause-read
unfolding read_change set_marks_fields
returns-in_err-marks-in-8-clause-read c = rw (← c.in_ok-k.ensures.read, c.in-8.is, ← c.in_err-marks-in-8.ensures.read, passed_on c.from_residual-in_err-marks-in-8.result c.in_err-marks-in-8.field-0.0 c.from_residual-in_err-marks-in-8.ensures)

pub returns-in_ok-marks-in-8-clause-read : goal.returns-in_ok-marks-in-8-clause-read
unfolding read_change set_marks_fields
returns-in_ok-marks-in-8-clause-read c = rw (← c.in_ok-k.ensures.read, c.in-8.is, ← c.in_ok-marks-in-8.ensures.read, c.number.ensures.same)

pub returns-in-6-clause-read : goal.returns-in-6-clause-read
unfolding read_change
returns-in-6-clause-read c = rw (← c.in_ok-k.ensures.read, c.in-6.is)

pub returns-in_default-clause-read : goal.returns-in_default-clause-read
unfolding read_change
returns-in_default-clause-read c =
    let k = c.in_ok-k.k in
    rw (← c.in_ok-k.ensures.read, ne_eqb k 1 (omega arith), ne_eqb k 2 (omega arith), ne_eqb k 3 (omega arith), ne_eqb k 4 (omega arith), ne_eqb k 5 (omega arith), ne_eqb k 6 (omega arith), ne_eqb k 7 (omega arith), ne_eqb k 8 (omega arith))
