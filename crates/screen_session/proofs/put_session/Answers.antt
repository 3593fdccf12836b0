use Rattle.std.proofs.lemmas.Result.{err_from_is_err_and}
use Rattle.screen_text.proofs.Laws.{unfit}
use Rattle.screen_session.proofs.Laws.{told_there, told_unfit}
use Rattle.screen_session.proofs.put_session.Goals as goal

pub returns-in_err-view : goal.returns-in_err-view
returns-in_err-view c =
    let a = c.args in
    let p = err_from_is_err_and c.from_residual.result c.from_residual.ensures.1 in
    rw (p.1, p.2, c.in_err-view.ensures.1, ← told_unfit a.shape a.words.now a.bytes.now a.place c.in_err-view.ensures.0) unfit

pub returns : goal.returns
returns c =
    let a = c.args in
    let o = c.in_ok-view.ensures in
    let lines = rw (o.shape, o.words, o.bytes) at c.write_lines-len.ensures in
    rw (← told_there a.shape a.words.now a.bytes.now a.place o.in_use (λ i. (c.type_inv.words i).fits) (λ i. (c.type_inv.bytes i).fits), ← lines.is) c.tell.ensures
