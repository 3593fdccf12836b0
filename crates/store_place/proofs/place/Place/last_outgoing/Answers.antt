use Rattle.store_place.proofs.Messages.{last_in}
use Rattle.store_place.proofs.place.Place.last_outgoing.Goals as goal

pub returns : goal.returns
returns c C lb =
    let e = c.log.ensures in
    last_in C _ _ _ lb _ _ _ _ e.words e.bytes e.max e.next _ _ c.last_outgoing.ensures
