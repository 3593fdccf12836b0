use Rattle.std.proofs.Common.{rules, arith, refl}
use Rattle.std.proofs.lemmas.Result.{err_from_is_err_and}
use Rattle.model_frame.proofs.Le.{are_bytes}
use Rattle.frame_encode.proofs.Ready.{hello_judged, hello_unfit, hello_ready, hello_put, node_length}
use Rattle.frame_writer.proofs.Encoded.{encoded_unreadable, encoded_failed, encoded_put}
use Rattle.frame_encode.proofs.hello.Goals as goal

pub put_hello-requires : goal.put_hello-requires
put_hello-requires c =
    let a = c.args in
    let s = c.in_ok-at.ensures in
    let l = node_length a.src.now a.node a.kinds (are_bytes a.src.now (λ i. (c.type_inv.src i).fits)) (hello_judged a.src.now a.node a.kinds c.within.ensures c.kinds_fit.ensures (rw c.slice.ensures at c.is_utf8.ensures) c.if-not-fits-is_utf8.false) in
    omega (arith, s.1, s.3, c.begin.auto.out, l)

pub returns-then-not-fits-is_utf8 : goal.returns-then-not-fits-is_utf8
returns-then-not-fits-is_utf8 c = let a = c.args in λ v. encoded_unreadable v _ _ _ (hello_unfit a.src.now a.node a.kinds v a.version a.epoch.0 (hello_judged a.src.now a.node a.kinds c.within.ensures c.kinds_fit.ensures (rw c.slice.ensures at c.is_utf8.ensures) c.if-not-fits-is_utf8.true))

pub returns-in_err-at : goal.returns-in_err-at
returns-in_err-at c = let a = c.args in let p = err_from_is_err_and c.from_residual.result c.from_residual.ensures.1 in rw (p.1, p.2) (λ v. encoded_failed v _ _ (hello_ready a.src.now a.node a.kinds (are_bytes a.src.now (λ i. (c.type_inv.src i).fits)) (hello_judged a.src.now a.node a.kinds c.within.ensures c.kinds_fit.ensures (rw c.slice.ensures at c.is_utf8.ensures) c.if-not-fits-is_utf8.false) v a.version a.epoch.0 refl) _ c.in_err-at.ensures)

pub returns : goal.returns
returns c =
    let a = c.args in
    let j = hello_judged a.src.now a.node a.kinds c.within.ensures c.kinds_fit.ensures (rw c.slice.ensures at c.is_utf8.ensures) c.if-not-fits-is_utf8.false in
    λ v. encoded_put v _ _ (hello_ready a.src.now a.node a.kinds (are_bytes a.src.now (λ i. (c.type_inv.src i).fits)) j v a.version a.epoch.0 refl) c.in_ok-at.ensures (hello_put a.src.now a.node a.kinds (are_bytes a.src.now (λ i. (c.type_inv.src i).fits)) j a.version a.epoch.0 c.put_hello.ensures) (search rules)
