use mathlib.Core.Path.{sym}
use Rattle.frame_reader.specs.Answers.{rest}
use Rattle.frame_reader.proofs.Rules.{marks_judged, marks_fault}
use Rattle.frame_reader.proofs.Faults.{passed_on}
use Rattle.frame_reader.proofs.Reader.marks.Goals as goal

pub returns-in_err-span-clause-read : goal.returns-in_err-span-clause-read
returns-in_err-span-clause-read c =
    rw (passed_on c.from_residual.result c.in_err-span.field-0.0 c.from_residual.ensures) (sym (marks_fault (rest c.args.self.now) (sym c.in_err-span.ensures.read)))

pub returns-clause-read : goal.returns-clause-read
returns-clause-read c =
    rw (marks_judged (rest c.args.self.now) (sym c.in_ok-span.ensures.read), ← c.blob.ensures.same) (rw (c.is_marks-valid.ensures, c.slice.ensures) at c.judged.ensures.read)
