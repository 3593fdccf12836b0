use Rattle.std.proofs.Common.{arith}
use Rattle.store_areas.specs.Areas.{place_at}
use Rattle.store_place.specs.Keys.{lent_key}
use Rattle.standby_ahead.proofs.Keys.{key_same}
use Rattle.standby_ahead.proofs.Numbers.{high_enough}
use Rattle.standby_ahead.proofs.has_number.Goals as goal

pub returns : goal.returns
returns c =
    let a = c.args in
    let v = a.view.now in
    let k = lent_key a.key.now in
    high_enough k a.n c.next_outgoing.result (place_at v.shape v.words.now v.bytes.now a.place) c.next_outgoing.ensures (omega (arith, c.if-next_outgoing-n.false))
    (key_same _ _ _ _ _ c.place-stored.ensures.is k c.has_key.ensures)
