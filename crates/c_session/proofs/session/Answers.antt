use Rattle.std.proofs.Common.{refl}
use Rattle.std.proofs.lemmas.Result.{err_from_is_err_and}
use Rattle.c_session.proofs.Laws.{told_there, unfit}
use Rattle.c_session.proofs.session.Goals as goal

pub returns-in_err-view : goal.returns-in_err-view
returns-in_err-view c =
    let a = c.args in
    let p = err_from_is_err_and c.from_residual.result c.from_residual.ensures.1 in
    rw (p.1, p.2, c.in_err-view.ensures.1) (unfit a.shape a.words.now a.bytes.now a.place a.n refl c.in_err-view.ensures.0)

pub returns : goal.returns
returns c =
    let a = c.args in
    let o = c.in_ok-view.ensures in
    told_there a.shape a.words.now a.bytes.now a.place a.n refl o.in_use (rw (o.shape, o.words, o.bytes) at c.write_session.ensures)
