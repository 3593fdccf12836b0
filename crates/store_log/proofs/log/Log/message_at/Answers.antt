use Rattle.std.proofs.Common.{◌+◌, ◌*◌, length, get_or, refl, subst}
use Rattle.store_log.specs.Log.{Spanned}
use Rattle.store_log.proofs.Summing.{seen, read}
use Rattle.store_log.proofs.log.Log.message_at.Goals as goal

pub span_of-requires-clause-len_le_dist : goal.span_of-requires-clause-len_le_dist
span_of-requires-clause-len_le_dist c =
    let a = c.args in
    (seen a.self.now.max a.self.now.next a.self.now.words.now a.self.now.bytes.now c.slot_at-slot.result c.head.result a.position.left a.position.dist c.requires.le_left c.requires.position c.head.ensures.is c.slot_at-slot.ensures.is).fits

pub overflow_sub-result-2 : goal.overflow_sub-result-2
overflow_sub-result-2 c =
    let a = c.args in
    (seen a.self.now.max a.self.now.next a.self.now.words.now a.self.now.bytes.now c.slot_at-slot.result c.head.result a.position.left a.position.dist c.requires.le_left c.requires.position c.head.ensures.is c.slot_at-slot.ensures.is).fits

pub returns : goal.returns
returns c =
    let a = c.args in
    let at = a.position in
    let span = c.span_of.result in
    let slot = c.slot_at-slot.result in
    read a.self.now.max a.self.now.next a.self.now.words.now a.self.now.bytes.now slot at.left at.dist (get_or a.self.now.words.now (2 + 2 * slot) 0) span.start span.first span.rest c.requires.position c.requires.le_left
    (seen a.self.now.max a.self.now.next a.self.now.words.now a.self.now.bytes.now slot c.head.result at.left at.dist c.requires.le_left c.requires.position c.head.ensures.is c.slot_at-slot.ensures.is) refl
    (subst (λ t. Spanned t (length a.self.now.bytes.now) at.dist (get_or a.self.now.words.now (3 + 2 * slot) 0) span.start span.first span.rest) c.tail.ensures.is c.span_of.ensures)
