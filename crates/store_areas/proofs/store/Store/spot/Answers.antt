use Rattle.std.proofs.Common.{arith}
use Rattle.store_areas.proofs.Lifting.{spot_in}
use Rattle.store_areas.proofs.store.Store.spot.Goals as goal

pub spot_of-requires-clause-place_bound : goal.spot_of-requires-clause-place_bound
spot_of-requires-clause-place_bound c = omega (arith, c.requires, c.args.self.now.rules.used, c.args.self.now.places_fit)

pub returns : goal.returns
returns c =
    let v = c.args.self.now in
    spot_in v.shape c.args.place _ _ _ _ c.spot_of.ensures v.words.now v.bytes.now v.rules c.requires
