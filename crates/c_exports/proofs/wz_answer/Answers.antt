use Rattle.frame_stamp.proofs.Versions.{version_spoken}
use Rattle.c_exports.proofs.Laws.{tells_nothing}
use Rattle.c_exports.proofs.wz_answer.Goals as goal

pub returns-then-answer-eq0 : goal.returns-then-answer-eq0
returns-then-answer-eq0 c =
    let v = version_spoken _ _ c.in-Ok.ensures in
    tells_nothing c.args.version c.args.bytes.now c.args.answer c.args.out.now v.0 c.if-answer-ne0.false c.if-answer-eq0.true c.done.ensures
