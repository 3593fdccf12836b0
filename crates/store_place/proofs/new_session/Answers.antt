use Rattle.std.proofs.Common.{arith}
use Rattle.store_place.proofs.Keys.{new_place_lem}
use Rattle.store_place.proofs.new_session.Goals as goal

pub returns : goal.returns
returns c C =
    let a = c.args in
    let k = a.key.now in
    let p0 = c.put_text.ensures in
    let p1 = c.put_text-2.ensures in
    let p2 = c.put_text-3.ensures in
    let p3 = c.put_text-4.ensures in
    new_place_lem C a.max k.begin.now k.sender.now k.target.now k.suffix.now _ _ _ _ _ a.words.now c.reset.new.words (omega arith)
    p0.text p1.text p2.text p3.text (rw (p3.length, p2.length, p1.length, p0.length) at (c.reset.ensures C c.put_text-4.new.bytes))
