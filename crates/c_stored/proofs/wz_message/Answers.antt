use Rattle.std.proofs.Common.{refl}
use Rattle.c_stored.proofs.Laws.{told, absent}
use Rattle.c_stored.proofs.wz_message.Goals as goal

pub returns-in-Some : goal.returns-in-Some
returns-in-Some c =
    let a = c.args in
    let o = c.in-Ok.ensures in
    told _ a.words.now a.bytes.now a.place a.number c.find_message.result o.in_use (λ i. (c.type_inv.words i).fits) (λ i. (c.type_inv.bytes i).fits) (rw (o.shape, o.words, o.bytes) at c.find_message.ensures) c.in-Some.is c.put_parts.ensures

pub returns-in-None : goal.returns-in-None
returns-in-None c =
    let a = c.args in
    let o = c.in-Ok.ensures in
    absent _ a.words.now a.bytes.now a.place a.number c.find_message.result o.in_use (λ i. (c.type_inv.words i).fits) (λ i. (c.type_inv.bytes i).fits) (rw (o.shape, o.words, o.bytes) at c.find_message.ensures) c.in-None.is refl
