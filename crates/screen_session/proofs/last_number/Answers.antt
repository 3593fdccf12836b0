use Rattle.std.proofs.Common.{sym, ap, ◌∙◌, arith}
use Rattle.model_screen.specs.SessionText.{last_number}
use Rattle.screen_session.proofs.Laws.{none_left}
use Rattle.screen_session.proofs.last_number.Goals as goal

pub returns : goal.returns
returns c =
    let v = c.args.view.now in
    ap (last_number c.loop-from.last) (sym (none_left v.shape v.words.now v.bytes.now c.args.place _ (omega (arith, c.loop-from-test.false)))) ∙ c.loop-from.invariant.1
