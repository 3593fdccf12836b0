use Rattle.std.proofs.Common.{rules, arith, refl, sym, ◌∙◌}
use Rattle.std.proofs.lemmas.Result.{err_from_is_err_and}
use Rattle.frame_encode.proofs.Ready.{bound_ready, bound_unfit, summary_lengths}
use Rattle.frame_writer.proofs.Encoded.{encoded_unreadable, encoded_failed, encoded_put}
use Rattle.frame_encode.proofs.bound.Goals as goal

pub put_bound-requires : goal.put_bound-requires
put_bound-requires c =
    let s = c.in_ok-at.ensures in
    let l = summary_lengths c.args.protocol.version c.args.src.now c.args.summary (sym c.summary_fits.ensures ∙ c.if-not-summary_fits.false) in
    omega (arith, s.1, s.3, c.begin.auto.out, l.stamp_is, l.marks_is)

pub returns-then-not-summary_fits : goal.returns-then-not-summary_fits
returns-then-not-summary_fits c = let a = c.args in encoded_unreadable _ _ _ _ (bound_unfit a.protocol.version a.src.now a.summary a.handle (sym c.summary_fits.ensures ∙ c.if-not-summary_fits.true))

pub returns-in_err-at : goal.returns-in_err-at
returns-in_err-at c = let a = c.args in let p = err_from_is_err_and c.from_residual.result c.from_residual.ensures.1 in rw (p.1, p.2) (encoded_failed _ _ _ (bound_ready a.protocol.version a.src.now a.summary a.handle (sym c.summary_fits.ensures ∙ c.if-not-summary_fits.false) refl) _ c.in_err-at.ensures)

pub returns : goal.returns
returns c = let a = c.args in encoded_put _ _ _ (bound_ready a.protocol.version a.src.now a.summary a.handle (sym c.summary_fits.ensures ∙ c.if-not-summary_fits.false) refl) c.in_ok-at.ensures c.put_bound.ensures (search rules)
