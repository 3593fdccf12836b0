use Rattle.std.proofs.Common.{refl}
use Rattle.store_place.specs.Place.{durable_of}
use Rattle.store_place.proofs.durable.Goals as goal

pub returns : goal.returns
unfolding durable_of
returns c = refl
