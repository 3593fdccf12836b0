use Rattle.model_frame.specs.Reading.{read_summary}
use Rattle.frame_reader.proofs.Faults.{passed_on}
use Rattle.frame_fields.proofs.read_summary.Goals as goal

pub returns-in_err-next_outgoing-clause-read : goal.returns-in_err-next_outgoing-clause-read
unfolding read_summary
returns-in_err-next_outgoing-clause-read c = rw (← c.in_err-next_outgoing.ensures.read, passed_on c.from_residual.result c.in_err-next_outgoing.field-0.0 c.from_residual.ensures)

pub returns-in_err-next_incoming-clause-read : goal.returns-in_err-next_incoming-clause-read
unfolding read_summary
returns-in_err-next_incoming-clause-read c = rw (← c.in_ok-next_outgoing.ensures.read, ← c.in_err-next_incoming.ensures.read, passed_on c.from_residual-in_err-next_incoming.result c.in_err-next_incoming.field-0.0 c.from_residual-in_err-next_incoming.ensures)

pub returns-in_err-number-clause-read : goal.returns-in_err-number-clause-read
unfolding read_summary
returns-in_err-number-clause-read c = rw (← c.in_ok-next_outgoing.ensures.read, ← c.in_ok-next_incoming.ensures.read, ← c.in_err-number.ensures.read, passed_on c.from_residual-in_err-number.result c.in_err-number.field-0.0 c.from_residual-in_err-number.ensures)

pub returns-in_err-created_at-clause-read : goal.returns-in_err-created_at-clause-read
unfolding read_summary
returns-in_err-created_at-clause-read c = rw (← c.in_ok-next_outgoing.ensures.read, ← c.in_ok-next_incoming.ensures.read, ← c.in_ok-number.ensures.read, ← c.flight-in_flight.ensures, ← c.in_err-created_at.ensures.read, passed_on c.from_residual-in_err-created_at.result c.in_err-created_at.field-0.0 c.from_residual-in_err-created_at.ensures)

pub returns-in_err-marks-clause-read : goal.returns-in_err-marks-clause-read
unfolding read_summary
returns-in_err-marks-clause-read c = rw (← c.in_ok-next_outgoing.ensures.read, ← c.in_ok-next_incoming.ensures.read, ← c.in_ok-number.ensures.read, ← c.flight-in_flight.ensures, ← c.in_ok-created_at.ensures.read, ← c.in_err-marks.ensures.read, passed_on c.from_residual-in_err-marks.result c.in_err-marks.field-0.0 c.from_residual-in_err-marks.ensures)

pub returns-in_err-last_outgoing-clause-read : goal.returns-in_err-last_outgoing-clause-read
unfolding read_summary
returns-in_err-last_outgoing-clause-read c = rw (← c.in_ok-next_outgoing.ensures.read, ← c.in_ok-next_incoming.ensures.read, ← c.in_ok-number.ensures.read, ← c.flight-in_flight.ensures, ← c.in_ok-created_at.ensures.read, ← c.in_ok-marks.ensures.read, ← c.in_err-last_outgoing.ensures.read, passed_on c.from_residual-in_err-last_outgoing.result c.in_err-last_outgoing.field-0.0 c.from_residual-in_err-last_outgoing.ensures)

pub returns-clause-read : goal.returns-clause-read
unfolding read_summary
returns-clause-read c =
    rw (← c.in_ok-next_outgoing.ensures.read, ← c.in_ok-next_incoming.ensures.read, ← c.in_ok-number.ensures.read, ← c.flight-in_flight.ensures, ← c.in_ok-created_at.ensures.read, ← c.in_ok-marks.ensures.read, ← c.in_ok-last_outgoing.ensures.read, c.stamp_or_none.ensures.same, c.number-3.ensures.same, c.number-2.ensures.same, c.number.ensures.same)
