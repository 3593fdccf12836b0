use Rattle.std.proofs.Common.{sym, ◌∙◌, [], ◌∷◌}
use Rattle.model_frame.specs.Frame.{record_msg}
use Rattle.model_standby.specs.Store.{changed}
use Rattle.store_areas.proofs.Lifting.{spot_both}
use Rattle.store_areas.proofs.Reading.{out_is}
use Rattle.store_import.proofs.record.Goals as goal

pub returns-clause-is : goal.returns-clause-is
returns-clause-is c =
    let a = c.args in
    let s = a.store.now in
    let r = c.«record» in
    let spot = c.spot-spot.ensures in
    spot_both s.shape a.place _ _ _ _ spot.at s.words.now s.bytes.now s.rules c.requires.place_bound (changed s.shape.bytes s.shape.messages (record_msg a.seq a.text.now ∷ [])) r.new.words r.new.bytes r.auto.words r.auto.bytes (r.ensures s.shape.bytes spot.bytes_part)

pub record-requires-clause-seq_value : goal.record-requires-clause-seq_value
record-requires-clause-seq_value c =
    let a = c.args in
    let s = a.store.now in
    c.requires.seq_value ∙ sym (out_is s.shape a.place _ _ _ _ s.words.now s.bytes.now c.spot-spot.ensures s.rules c.requires.place_bound)
