use Rattle.std.proofs.lemmas.Result.{err_from_is_err_and}
use Rattle.store_sessions.proofs.Seeking.{sought, not_sought}
use Rattle.store_sessions.proofs.find.Goals as goal

pub returns-in_err-view : goal.returns-in_err-view
returns-in_err-view c =
    let p = err_from_is_err_and c.from_residual.result c.from_residual.ensures.1 in
    rw (p.1, p.2, c.in_err-view.ensures.1) (not_sought _ _ _ _ c.in_err-view.ensures.0)

pub returns : goal.returns
returns c = sought _ _ _ _ _ _ c.in_ok-view.ensures c.place_of.ensures
