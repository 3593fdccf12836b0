use Rattle.std.proofs.Common.{rules, arith, refl}
use Rattle.std.proofs.lemmas.Result.{err_from_is_err_and}
use Rattle.model_frame.proofs.Le.{are_bytes}
use Rattle.base_bytes.proofs.Puts.{put_on}
use Rattle.frame_fields.specs.Answers.{part_of}
use Rattle.frame_encode.proofs.Ready.{ops_unread, records_unread, batch_ready, batch_put}
use Rattle.frame_writer.proofs.Encoded.{encoded_unreadable, encoded_failed, encoded_put}
use Rattle.frame_encode.proofs.batch.Goals as goal

pub returns-in_default : goal.returns-in_default
returns-in_default c = let a = c.args in encoded_unreadable _ _ _ _ (ops_unread a.protocol.version a.src.now a.batch.ops a.batch.app_records a.batch.handle a.batch.epoch.0 a.batch.commit_no.0 (part_of a.batch.part) c.in_default.ensures)

pub returns-in_default-run_len : goal.returns-in_default-run_len
returns-in_default-run_len c = let a = c.args in encoded_unreadable _ _ _ _ (records_unread a.protocol.version a.src.now a.batch.ops a.batch.app_records a.batch.handle a.batch.epoch.0 a.batch.commit_no.0 (part_of a.batch.part) c.in_default-run_len.ensures)

pub returns-then-max : goal.returns-then-max
returns-then-max c =
    let a = c.args in
    encoded_failed _ _ _ (batch_ready a.protocol.version a.src.now a.batch.ops a.batch.app_records (are_bytes a.src.now (λ i. (c.type_inv.src i).fits)) c.in-Ok.ensures.0 c.in-Ok.ensures.1 c.in-Ok-run_len.ensures.0 c.in-Ok-run_len.ensures.1 a.batch.handle a.batch.epoch.0 a.batch.commit_no.0 (part_of a.batch.part)) _ (omega (arith, c.if-max.true, c.max.ensures), refl)

pub returns-in_err-at : goal.returns-in_err-at
returns-in_err-at c =
    let a = c.args in
    let p = err_from_is_err_and c.from_residual.result c.from_residual.ensures.1 in rw (p.1, p.2)
    (encoded_failed _ _ _ (batch_ready a.protocol.version a.src.now a.batch.ops a.batch.app_records (are_bytes a.src.now (λ i. (c.type_inv.src i).fits)) c.in-Ok.ensures.0 c.in-Ok.ensures.1 c.in-Ok-run_len.ensures.0 c.in-Ok-run_len.ensures.1 a.batch.handle a.batch.epoch.0 a.batch.commit_no.0 (part_of a.batch.part)) _ c.in_err-at.ensures)

pub returns : goal.returns
returns c =
    let a = c.args in
    encoded_put _ _ _ (batch_ready a.protocol.version a.src.now a.batch.ops a.batch.app_records (are_bytes a.src.now (λ i. (c.type_inv.src i).fits)) c.in-Ok.ensures.0 c.in-Ok.ensures.1 c.in-Ok-run_len.ensures.0 c.in-Ok-run_len.ensures.1 a.batch.handle a.batch.epoch.0 a.batch.commit_no.0 (part_of a.batch.part)) c.in_ok-at.ensures
    (batch_put a.protocol.version a.src.now a.batch.ops a.batch.app_records (are_bytes a.src.now (λ i. (c.type_inv.src i).fits)) c.in-Ok.ensures.0 c.in-Ok.ensures.1 c.in-Ok-run_len.ensures.0 c.in-Ok-run_len.ensures.1 a.batch.handle a.batch.epoch.0 a.batch.commit_no.0 (part_of a.batch.part) (put_on c.put_head.ensures.put c.put_runs.ensures)) (search rules)
