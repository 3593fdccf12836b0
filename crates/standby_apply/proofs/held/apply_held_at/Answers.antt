use Rattle.model_standby.specs.Store.{changed}
use Rattle.standby_segments.specs.Steps.{all_of}
use Rattle.store_areas.proofs.Lifting.{spot_both}
use Rattle.standby_apply.proofs.At.{asks}
use Rattle.standby_apply.proofs.held.apply_held_at.Goals as goal

pub apply_held-requires-clause-run_value : goal.apply_held-requires-clause-run_value
apply_held-requires-clause-run_value c = asks _ _ _ _ _ _ _ _ c.spot-spot.ensures.at c.args.store.now.rules c.requires.place_bound (all_of c.args.held.now) c.requires.run_value

pub returns-clause-is : goal.returns-clause-is
returns-clause-is c =
    let s = c.args.store.now in
    let r = c.apply_held in
    spot_both s.shape c.args.place _ _ _ _ c.spot-spot.ensures.at s.words.now s.bytes.now s.rules c.requires.place_bound (changed s.shape.bytes s.shape.messages (all_of c.args.held.now)) r.new.words r.new.bytes r.auto.words r.auto.bytes (r.ensures s.shape.bytes c.spot-spot.ensures.bytes_part)
