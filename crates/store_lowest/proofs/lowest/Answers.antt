use Rattle.store_lowest.proofs.Laws.{none_stored, first_stored}
use Rattle.store_lowest.proofs.lowest.Goals as goal

pub returns-then-from-eq0 : goal.returns-then-from-eq0
returns-then-from-eq0 c =
    let a = c.args in
    let o = c.in_ok-view.ensures in
    none_stored a.shape a.words.now a.bytes.now a.place o.in_use (λ i. (c.type_inv.words i).fits) (λ i. (c.type_inv.bytes i).fits) (rw (o.shape, o.words, o.bytes) at c.messages_from-from.ensures) c.if-from-eq0.true

pub returns : goal.returns
returns c =
    let a = c.args in
    let o = c.in_ok-view.ensures in
    first_stored a.shape a.words.now a.bytes.now a.place o.in_use (λ i. (c.type_inv.words i).fits) (λ i. (c.type_inv.bytes i).fits) (rw (o.shape, o.words, o.bytes) at c.messages_from-from.ensures) (rw (o.shape, o.words, o.bytes) at c.message_at.ensures)
