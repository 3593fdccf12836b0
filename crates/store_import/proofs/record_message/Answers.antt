use Rattle.std.proofs.Common.{subst, [], ◌∷◌}
use Rattle.model_frame.specs.Frame.{record_msg}
use Rattle.model_standby.specs.Store.{changed}
use Rattle.store_areas.specs.declared.Shape.{Shape}
use Rattle.store_areas.specs.Areas.{Changed}
use Rattle.store_import.proofs.Recording.{skipped_next, skipped}
use Rattle.store_import.proofs.record_message.Goals as goal

pub record-requires-clause-seq_value : goal.record-requires-clause-seq_value
record-requires-clause-seq_value c =
    let a = c.args in
    let s = a.store.now in
    let r = c.record_none in
    rw r.ensures.same.shape (skipped_next s.shape a.place s.words.now s.bytes.now c.requires.place_bound a.next a.seq a.text.now c.if-next-seq.true r.new.store.words.now r.new.store.bytes.now r.ensures.is)

pub returns-then-next-seq-clause-is : goal.returns-then-next-seq-clause-is
returns-then-next-seq-clause-is c =
    let a = c.args in
    let s = a.store.now in
    let r = c.record_none in
    let t = r.new.store in
    let u = c.«record».new.store in
    let d : Changed s.shape a.place (changed s.shape.bytes s.shape.messages (record_msg a.seq a.text.now ∷ [])) t.words.now u.words.now t.bytes.now u.bytes.now =
    subst (λ (q : Shape). Changed q a.place (changed q.bytes q.messages (record_msg a.seq a.text.now ∷ [])) t.words.now u.words.now t.bytes.now u.bytes.now) r.ensures.same.shape c.«record».ensures.is in
    skipped s.shape a.place s.words.now s.bytes.now c.requires.place_bound a.next a.seq a.text.now c.if-next-seq.true t.words.now t.bytes.now r.ensures.is u.words.now u.bytes.now d
