use Rattle.std.proofs.Common.{rules, arith, refl, sym, ◌∙◌}
use Rattle.std.proofs.lemmas.Result.{err_from_is_err_and}
use Rattle.frame_encode.proofs.Ready.{bind_ready, bind_unfit, key_lengths}
use Rattle.frame_writer.proofs.Encoded.{encoded_unreadable, encoded_failed, encoded_put}
use Rattle.frame_encode.proofs.bind.Goals as goal

pub put_bind-requires : goal.put_bind-requires
put_bind-requires c =
    let s = c.in_ok-at.ensures in
    let l = key_lengths c.args.src.now c.args.session (sym c.session_fits.ensures ∙ c.if-not-session_fits.false) in
    omega (arith, s.1, s.3, c.begin.auto.out, l.begin_is, l.sender_is, l.target_is, l.suffix_is)

pub returns-then-not-session_fits : goal.returns-then-not-session_fits
returns-then-not-session_fits c = let a = c.args in λ v. encoded_unreadable v _ _ _ (bind_unfit a.src.now a.session v a.handle a.epoch.0 a.lag (sym c.session_fits.ensures ∙ c.if-not-session_fits.true))

pub returns-in_err-at : goal.returns-in_err-at
returns-in_err-at c = let a = c.args in let p = err_from_is_err_and c.from_residual.result c.from_residual.ensures.1 in rw (p.1, p.2) (λ v. encoded_failed v _ _ (bind_ready a.src.now a.session v a.handle a.epoch.0 a.lag (sym c.session_fits.ensures ∙ c.if-not-session_fits.false) refl) _ c.in_err-at.ensures)

pub returns : goal.returns
returns c = let a = c.args in λ v. encoded_put v _ _ (bind_ready a.src.now a.session v a.handle a.epoch.0 a.lag (sym c.session_fits.ensures ∙ c.if-not-session_fits.false) refl) c.in_ok-at.ensures c.put_bind.ensures (search rules)
