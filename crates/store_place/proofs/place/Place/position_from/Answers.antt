use Rattle.store_place.proofs.Messages.{from_in}
use Rattle.store_place.proofs.place.Place.position_from.Goals as goal

pub returns : goal.returns
returns c C lb =
    let e = c.log.ensures in
    from_in C _ _ _ lb _ _ _ _ e.words e.bytes e.max e.next _ _ _ c.position_from.ensures
