use Rattle.std.proofs.lemmas.Result.{err_from_is_err_and}
use Rattle.standby_reply.proofs.Laws.{no_frame, its_frame}
use Rattle.standby_reply.proofs.write.Goals as goal

pub returns-in_err-frame : goal.returns-in_err-frame
returns-in_err-frame c =
    let p = err_from_is_err_and c.from_residual.result c.from_residual.ensures.1 in
    rw (p.1, p.2) (no_frame c.args.protocol.version c.args.bytes.now c.args.out.now c.frame.result _ c.frame.ensures c.in_err-frame.ensures.value)

pub returns : goal.returns
returns c = rw (its_frame c.args.protocol.version c.args.bytes.now c.frame.result _ c.frame.ensures c.in_ok-frame.ensures.value) at c.encode.ensures
