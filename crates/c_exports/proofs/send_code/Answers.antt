use Rattle.std.proofs.Common.{arith}
use Rattle.c_exports.proofs.Sending.{sends_frame}
use Rattle.c_exports.proofs.send_code.Goals as goal

pub returns-in-Ok-Some : goal.returns-in-Ok-Some
returns-in-Ok-Some c =
    let a = c.args in
    sends_frame _ a.shape a.words.now a.bytes.now a.state a.sending.now c.in-Ok-Some.sent _ (rw c.in-Ok-Some.field-0-is at c.in-Ok-Some.ensures) (omega arith) c.put_sending.ensures c.done.ensures
