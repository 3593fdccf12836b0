use Rattle.model_frame.specs.Parse.{read_text}
use Rattle.frame_reader.proofs.Faults.{passed_on}
use Rattle.frame_reader.proofs.Reader.text.Goals as goal

pub returns-in_err-span-clause-read : goal.returns-in_err-span-clause-read
unfolding read_text
returns-in_err-span-clause-read c = rw (← c.in_err-span.ensures.read, passed_on c.from_residual.result c.in_err-span.field-0.0 c.from_residual.ensures)

pub returns-then-is_utf8-clause-read : goal.returns-then-is_utf8-clause-read
unfolding read_text
returns-then-is_utf8-clause-read c = rw (← c.in_ok-span.ensures.read, ← c.blob.ensures.same, ← c.slice.ensures, ← c.is_utf8.ensures, c.if-is_utf8.true)

pub returns-else-is_utf8-clause-read : goal.returns-else-is_utf8-clause-read
unfolding read_text
returns-else-is_utf8-clause-read c = rw (← c.in_ok-span.ensures.read, ← c.blob.ensures.same, ← c.slice.ensures, ← c.is_utf8.ensures, c.if-is_utf8.false)
