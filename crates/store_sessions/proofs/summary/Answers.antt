use Rattle.std.proofs.lemmas.Result.{err_from_is_err_and}
use Rattle.store_sessions.proofs.Parts.{summary_known, summary_refused}
use Rattle.store_sessions.proofs.summary.Goals as goal

pub returns-in_err-view-clause-is : goal.returns-in_err-view-clause-is
returns-in_err-view-clause-is c =
    let p = err_from_is_err_and c.from_residual.result c.from_residual.ensures.1 in
    rw (p.1, p.2, c.in_err-view.ensures.1) (summary_refused _ _ _ _ _ c.in_err-view.ensures.0)

pub returns-clause-is : goal.returns-clause-is
returns-clause-is c = summary_known _ _ _ _ _ _ _ c.in_ok-view.ensures c.summary_of.ensures.is
