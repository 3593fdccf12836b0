use Rattle.std.proofs.Common.{◌-◌, length, arith}
use Rattle.store_place.proofs.Messages.{stands_out, read_in}
use Rattle.store_place.proofs.place.Place.message_at.Goals as goal

pub message_at-found-requires-clause-position : goal.message_at-found-requires-clause-position
message_at-found-requires-clause-position c =
    let e = c.log.ensures in
    let bytes = c.args.self.now.bytes.now in
    stands_out (length bytes - 224) _ _ bytes (omega arith) _ _ _ _ e.words e.bytes e.max e.next _ _ c.requires.position_in

pub returns : goal.returns
returns c C lb =
    let e = c.log.ensures in
    read_in C _ _ _ lb _ _ _ _ e.words e.bytes e.max e.next _ _ _ _ _ _ _ _ c.message_at-found.ensures
