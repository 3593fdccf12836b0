use Rattle.model_frame.specs.Reading.{read_reason}
use Rattle.frame_reader.proofs.Faults.{passed_on}
use Rattle.frame_fields.proofs.Bytes.{reason_read}
use Rattle.frame_fields.proofs.read_reason.Goals as goal

pub returns-in_err-number-clause-read : goal.returns-in_err-number-clause-read
unfolding read_reason
returns-in_err-number-clause-read c = rw (← c.in_err-number.ensures.read, passed_on c.from_residual.result c.in_err-number.field-0.0 c.from_residual.ensures)

pub returns-clause-read : goal.returns-clause-read
returns-clause-read c = reason_read c.number.new.self _ _ c.in_ok-number.ensures.read c.try_from.result c.try_from.ensures
