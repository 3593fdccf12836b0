use Rattle.model_frame.proofs.Le.{are_bytes}
use Rattle.c_exports.proofs.Laws.{again_whole}
use Rattle.c_exports.proofs.read_and_write.Goals as goal

pub returns-in-Ok-Some : goal.returns-in-Ok-Some
returns-in-Ok-Some c =
    let w = c.args.frame.now in
    let d = rw c.in-Ok-Some.field-0-is at c.in-Ok-Some.ensures in
    again_whole c.args.protocol.version w d.result_value (are_bytes w (λ i. (c.type_inv.frame i).fits)) d.stands_in c.rewritten.ensures
