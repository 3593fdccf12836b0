use Rattle.model_frame.specs.Reading.{read_app_record}
use Rattle.frame_reader.proofs.Faults.{passed_on}
use Rattle.frame_fields.proofs.read_app_record.Goals as goal

pub returns-in_err-kind-clause-read : goal.returns-in_err-kind-clause-read
unfolding read_app_record
returns-in_err-kind-clause-read c = rw (← c.in_err-kind.ensures.read, passed_on c.from_residual.result c.in_err-kind.field-0.0 c.from_residual.ensures)

pub returns-in_err-bytes-clause-read : goal.returns-in_err-bytes-clause-read
unfolding read_app_record
returns-in_err-bytes-clause-read c = rw (← c.in_ok-kind.ensures.read, ← c.in_err-bytes.ensures.read, passed_on c.from_residual-in_err-bytes.result c.in_err-bytes.field-0.0 c.from_residual-in_err-bytes.ensures)

pub returns-clause-read : goal.returns-clause-read
unfolding read_app_record
returns-clause-read c = rw (← c.in_ok-kind.ensures.read, ← c.in_ok-bytes.ensures.read, c.number.ensures.same)
