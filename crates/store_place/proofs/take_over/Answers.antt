use Rattle.std.proofs.Common.{length, ◌∙◌, arith}
use Rattle.store_place.proofs.Promotion.{taken}
use Rattle.store_place.proofs.take_over.Goals as goal

pub returns : goal.returns
returns c C =
    let a = c.args in
    let next = c.next_outgoing-next in
    let marks = c.marks-n in
    let b = c.put_b-end in
    let s = c.discard_stale in
    taken C a.max a.lag b.result c.saturating_add.result next.result (length marks.result.now) a.bytes.now b.new.bytes s.new.words a.words.now (omega arith) s.auto.words b.ensures.only
    b.ensures.within (marks.ensures.stands ∙ marks.ensures.is) b.ensures.is (omega arith) next.ensures c.saturating_add.ensures s.ensures
