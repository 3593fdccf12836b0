use Rattle.std.proofs.Common.{arith}
use Rattle.frames_lowest.proofs.Laws.{put_hyphen, no_number, a_number}
use Rattle.frames_lowest.proofs.put_record.Goals as goal

pub returns-then-answer-eq0 : goal.returns-then-answer-eq0
returns-then-answer-eq0 c = no_number c.args.answer c.if-answer-eq0.true (put_hyphen c.args.out.now (omega arith))

pub returns : goal.returns
returns c = a_number c.args.answer c.if-answer-eq0.false c.put_number.ensures
