use Rattle.std.proofs.Common.{ℕ, ◌+◌, ◌-◌, length, drop, ap, ◌∙◌, arith}
use borrow.Rule.Slice.PartMut.{mid_of}
use Rattle.store_log.specs.Log.{log_of}
use Rattle.store_place.proofs.Logging.{bare}
use Rattle.store_place.proofs.record_none.Goals as goal

pub returns : goal.returns
returns c C b =
    let a = c.args in
    let n = c.next_outgoing-next in
    let s = c.discard_stale in
    bare C a.max a.seq b s.new.words a.words.now (omega arith) s.auto.words
    (s.ensures C (a.seq + 1) (drop 224 b) (omega (arith, n.ensures)) ∙ ap (λ (k : ℕ). log_of C a.max k (mid_of 14 (length a.words.now - 14) a.words.now) (drop 224 b)) n.ensures)
