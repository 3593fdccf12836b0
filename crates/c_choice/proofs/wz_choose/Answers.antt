use Rattle.std.proofs.Common.{arith}
use Rattle.c_choice.proofs.Laws.{too_short, answered}
use Rattle.c_choice.proofs.wz_choose.Goals as goal

pub returns-then-copies : goal.returns-then-copies
returns-then-copies c =
    let a = c.args in
    too_short a.copies.now a.w0.now a.b0.now a.w1.now a.b1.now a.w2.now a.b2.now a.w3.now a.b3.now a.w4.now a.b4.now _ (omega (arith, c.if-copies.true)) c.code.ensures

pub returns : goal.returns
returns c =
    let a = c.args in
    answered a.copies.now a.w0.now a.b0.now a.w1.now a.b1.now a.w2.now a.b2.now a.w3.now a.b3.now a.w4.now a.b4.now c.lent.ensures c.lent-2.ensures c.lent-3.ensures c.lent-4.ensures c.lent-5.ensures c.choose-choice.result _ (omega (arith, c.if-copies.false)) c.choose-choice.ensures c.code-2.ensures
