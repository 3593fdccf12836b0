use mathlib.Core.Path.{sym}
use Rattle.base_laws.proofs.Places.{bytes_got}
use Rattle.frame_reader.specs.Answers.{rest}
use Rattle.standby_changes.proofs.Loops.{record_there}
use Rattle.standby_changes.proofs.skip_record.Goals as goal

pub returns-clause-past : goal.returns-clause-past
returns-clause-past c = λ version.
    let after = c.number-3.new.self in
    record_there version (rest c.args.reader.now) (sym c.in_ok-kind.ensures.read) c.if-kind-ne-RECORD.false (sym c.in_ok-_seq.ensures.read) (sym c.in_ok-n.ensures.read) c.if-n-len.false (bytes_got c.args.len after.buf.now after.at c.left.ensures c.if-left-len.false)
