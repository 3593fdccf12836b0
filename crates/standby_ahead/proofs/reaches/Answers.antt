use Rattle.std.proofs.Common.{arith}
use Rattle.store_areas.specs.Areas.{places_of}
use Rattle.store_place.specs.Keys.{lent_key}
use Rattle.standby_ahead.proofs.Numbers.{reached, low_enough}
use Rattle.standby_ahead.proofs.reaches.Goals as goal

pub returns-then-n-le1 : goal.returns-then-n-le1
returns-then-n-le1 c =
    let a = c.args in
    low_enough (lent_key a.key.now) a.n (places_of a.mine.now.view.shape a.mine.now.view.words.now a.mine.now.view.bytes.now) (omega (arith, c.if-n-le1.true))

pub returns-then-has_number : goal.returns-then-has_number
returns-then-has_number c =
    let a = c.args in
    reached a.mine.now.view.shape a.mine.now.view.words.now a.mine.now.view.bytes.now (lent_key a.key.now) a.n a.first (omega (arith, c.if-first-used.true)) c.has_number.ensures c.if-has_number.true
