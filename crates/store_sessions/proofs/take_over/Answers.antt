use Rattle.model_standby.specs.Store.{taken_over}
use Rattle.store_areas.proofs.Lifting.{spot_both}
use Rattle.store_sessions.proofs.take_over.Goals as goal

pub returns-clause-is : goal.returns-clause-is
returns-clause-is c =
    let a = c.args in
    let r = c.take_over in
    spot_both a.store.now.shape a.place _ _ _ _ c.spot-spot.ensures.at a.store.now.words.now a.store.now.bytes.now c.args.store.now.rules c.requires (taken_over a.lag) r.new.words r.new.bytes r.auto.words r.auto.bytes (r.ensures a.store.now.shape.bytes)
