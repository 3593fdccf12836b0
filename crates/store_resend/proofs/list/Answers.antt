use Rattle.std.proofs.Common.{ℕ, ◌≤◌, refl, sym, subst, ◌∙◌, arith}
use Rattle.store_resend.proofs.Passes.{list_many, list_short, list_done, within_C, lowest_one}
use Rattle.store_resend.proofs.list.Goals as goal

pub returns-then-ranges-gt-MAX_RANGES : goal.returns-then-ranges-gt-MAX_RANGES
returns-then-ranges-gt-MAX_RANGES c = list_many _ _ _ _ _ _ refl c.in_ok-view.ensures.in_use c.if-ranges-ne0.false _ refl (omega (arith, c.if-ranges-gt-MAX_RANGES.true))

pub messages_from-requires-clause-le_low : goal.messages_from-requires-clause-le_low
messages_from-requires-clause-le_low c = subst (λ (k : ℕ). 1 ≤ k) (sym c.lowest_first.ensures) (lowest_one _ (sym c.are_ranges.ensures ∙ c.if-not-are_ranges.false))

pub returns-then-not-has_room : goal.returns-then-not-has_room
returns-then-not-has_room c =
    let o = c.in_ok-view.ensures in
    let from = rw (o.shape, o.words, o.bytes) at c.messages_from.ensures in
    let room = rw (o.shape, o.words, o.bytes) at c.has_room.ensures in
    list_short _ _ _ _ _ _ refl o.in_use c.if-ranges-ne0.false (omega (arith, c.if-ranges-gt-MAX_RANGES.false)) c.are_ranges.ensures c.if-not-are_ranges.false c.lowest_first.ensures from room _ refl c.if-not-has_room.true

pub returns : goal.returns
returns c =
    let o = c.in_ok-view.ensures in
    let from = rw (o.shape, o.words, o.bytes) at c.messages_from.ensures in
    let room = rw (o.shape, o.words, o.bytes) at c.has_room.ensures in
    let filled = rw (o.shape, o.words, o.bytes) at c.fill-t.ensures in
    list_done _ _ _ _ _ _ refl o.in_use c.if-ranges-ne0.false (omega (arith, c.if-ranges-gt-MAX_RANGES.false)) c.are_ranges.ensures c.if-not-are_ranges.false c.lowest_first.ensures from room _ c.if-not-has_room.false (within_C _ _ _ _ _ _ from.stands) filled
