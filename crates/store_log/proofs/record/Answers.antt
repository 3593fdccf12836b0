use Rattle.std.proofs.Common.{◌+◌, length, sym, refl, ◌∙◌, inl, inr, arith}
use Rattle.store_log.specs.Log.{log_of}
use Rattle.store_log.proofs.Recording.{settle_none, not_stored, stored_law}
use Rattle.store_log.proofs.record.Goals as goal

pub returns-then-max-eq0 : goal.returns-then-max-eq0
returns-then-max-eq0 c =
    let a = c.args in
    let C = length a.bytes.now in
    settle_none C a.max (a.seq + 1) a.seq a.words.now a.words.now a.bytes.now c.if-max-eq0.true
    ∙ sym (not_stored C a.max a.seq a.text.now (log_of C a.max a.seq a.words.now a.bytes.now) (inl c.if-max-eq0.true))

pub returns-then-cap-text : goal.returns-then-cap-text
returns-then-cap-text c =
    let a = c.args in
    let C = length a.bytes.now in
    c.discard_stale.ensures C (a.seq + 1) a.bytes.now (omega arith)
    ∙ sym (not_stored C a.max a.seq a.text.now (log_of C a.max a.seq a.words.now a.bytes.now) (inr c.if-cap-text.true))

pub returns : goal.returns
returns c =
    let a = c.args in
    let tail = c.tail-at in
    let ring = c.ring_write-end in
    let put = c.put_entry in
    stored_law (length a.bytes.now) a.max a.seq (a.seq + 1) tail.result ring.result a.words.now put.new.words a.bytes.now ring.new.bytes a.text.now
    refl (omega arith) (omega arith) (omega arith) (omega arith) tail.ensures.within tail.ensures.is ring.ensures.within ring.ensures.rolled put.ensures.put put.ensures.«end»
