use Rattle.model_frame.specs.Parse.{read_blob}
use Rattle.base_laws.proofs.Places.{bytes_short, bytes_got}
use Rattle.frame_reader.proofs.Faults.{passed_on}
use Rattle.frame_reader.proofs.Reader.blob.Goals as goal

pub returns-in_err-len-clause-read : goal.returns-in_err-len-clause-read
unfolding read_blob
returns-in_err-len-clause-read c = rw (← c.in_err-len.ensures.read, passed_on c.from_residual.result c.in_err-len.field-0.0 c.from_residual.ensures)

pub returns-then-left-len-clause-read : goal.returns-then-left-len-clause-read
unfolding read_blob
returns-then-left-len-clause-read c = rw (← c.in_ok-len.ensures.read, bytes_short _ _ _ c.left.ensures c.if-left-len.true)

pub returns-clause-read : goal.returns-clause-read
unfolding read_blob
returns-clause-read c = rw (← c.in_ok-len.ensures.read, bytes_got _ _ _ c.left.ensures c.if-left-len.false, c.number.ensures.same)
