use Rattle.std.proofs.Common.{arith, [], ◌∷◌}
use Rattle.model_frame.specs.Frame.{record_bare}
use Rattle.model_standby.specs.Store.{changed}
use Rattle.store_areas.proofs.Lifting.{spot_words}
use Rattle.store_areas.proofs.Reading.{out_is}
use Rattle.store_import.proofs.record_none.Goals as goal

pub returns-clause-is : goal.returns-clause-is
returns-clause-is c =
    let a = c.args in
    let s = a.store.now in
    let r = c.record_none in
    spot_words s.shape a.place _ _ _ _ c.spot-spot.ensures.at s.words.now s.bytes.now s.rules c.requires.place_bound (changed s.shape.bytes s.shape.messages (record_bare a.seq ∷ [])) r.new.words r.auto.words (r.ensures s.shape.bytes)

pub record_none-requires-clause-words_bound : goal.record_none-requires-clause-words_bound
record_none-requires-clause-words_bound c =
    let a = c.args in
    let s = a.store.now in
    omega (arith, out_is s.shape a.place _ _ _ _ s.words.now s.bytes.now c.spot-spot.ensures s.rules c.requires.place_bound, c.requires.place_bound_2)
