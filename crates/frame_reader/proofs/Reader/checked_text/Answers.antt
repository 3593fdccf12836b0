use mathlib.Core.Path.{sym, ◌∙◌}
use Rattle.model_text.proofs.Laws.{printable_is}
use Rattle.model_frame.specs.Parse.{read_text}
use Rattle.frame_reader.proofs.Faults.{passed_on}
use Rattle.frame_reader.proofs.Reader.checked_text.Goals as goal

pub returns-in_err-span-clause-read : goal.returns-in_err-span-clause-read
unfolding read_text
returns-in_err-span-clause-read c = rw (← c.in_err-span.ensures.read, passed_on c.from_residual.result c.in_err-span.field-0.0 c.from_residual.ensures)

pub returns-then-is_printable-clause-read : goal.returns-then-is_printable-clause-read
unfolding read_text
returns-then-is_printable-clause-read c =
    let told = sym c.is_printable.ensures ∙ c.if-is_printable.true in
    rw (← c.in_ok-span.ensures.read, ← c.blob.ensures.same, ← c.slice.ensures, (printable_is _ _ _ told).coded)

pub returns-then-is_utf8-clause-read : goal.returns-then-is_utf8-clause-read
unfolding read_text
returns-then-is_utf8-clause-read c = rw (← c.in_ok-span.ensures.read, ← c.blob.ensures.same, ← c.slice-2.ensures, ← c.is_utf8.ensures, c.if-is_utf8.true)

pub returns-else-is_utf8-clause-read : goal.returns-else-is_utf8-clause-read
unfolding read_text
returns-else-is_utf8-clause-read c = rw (← c.in_ok-span.ensures.read, ← c.blob.ensures.same, ← c.slice-2.ensures, ← c.is_utf8.ensures, c.if-is_utf8.false)
