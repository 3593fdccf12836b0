use Rattle.store_place.specs.Place.{next_out_of}
use Rattle.store_place.proofs.next_outgoing.Goals as goal

pub returns : goal.returns
unfolding next_out_of
returns c = c.max.ensures
