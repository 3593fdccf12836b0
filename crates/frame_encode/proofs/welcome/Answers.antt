use Rattle.std.proofs.Common.{rules}
use Rattle.model_frame.specs.Writing.{body_bytes}
use Rattle.base_bytes.proofs.Puts.{put_on}
use Rattle.std.proofs.lemmas.Result.{err_from_is_err_and}
use Rattle.frame_encode.proofs.Ready.{welcome_ready}
use Rattle.frame_writer.proofs.Encoded.{encoded_failed, encoded_put}
use Rattle.frame_encode.proofs.welcome.Goals as goal

pub returns-in_err-at : goal.returns-in_err-at
returns-in_err-at c = let a = c.args in let p = err_from_is_err_and c.from_residual.result c.from_residual.ensures.1 in rw (p.1, p.2) (λ v. encoded_failed v _ _ (welcome_ready v a.epoch.0 a.incarnation.0) _ c.in_err-at.ensures)

pub returns : goal.returns
unfolding body_bytes
returns c = let a = c.args in λ v. encoded_put v _ _ (welcome_ready v a.epoch.0 a.incarnation.0) c.in_ok-at.ensures (put_on c.tagged.ensures.put c.number.ensures.put) (search rules)
