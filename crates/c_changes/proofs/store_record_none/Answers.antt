use Rattle.std.proofs.Common.{refl, arith}
use Rattle.c_store.proofs.Laws.{cannot, made_words, next_is, below_next, past_top, a_number}
use Rattle.c_changes.proofs.store_record_none.Goals as goal
use Rattle.c_changes.proofs.store_record_none.Goals.{then-seq-next-via-then-seq-next, then-seq-next-via-else-seq-next+then-seq-eq18446744073709551615}

pub returns-then-seq-next : goal.returns-then-seq-next
returns-then-seq-next c =
    elim c.then-seq-next.branch [
      | then-seq-next-via-then-seq-next w ↦
          cannot refl c.in-Ok.ensures.in_use
          (below_next c.args.seq (next_is refl c.in-Ok.ensures.in_use (rw (c.in-Ok.ensures.shape, c.in-Ok.ensures.words, c.in-Ok.ensures.bytes) at c.spot-spot.ensures) c.next_outgoing-next.ensures) w.if-seq-next.true) (omega arith) c.number-then-seq-next.ensures
      | then-seq-next-via-else-seq-next+then-seq-eq18446744073709551615 w ↦
          cannot refl c.in-Ok.ensures.in_use (past_top _ c.args.seq w.if-seq-eq18446744073709551615.true) (omega arith) c.number-then-seq-next.ensures
    ]

pub record_none-requires : goal.record_none-requires
record_none-requires c =
    record {
      max_in_bounds = omega (arith, (rw (c.in-Ok.ensures.shape, c.in-Ok.ensures.words, c.in-Ok.ensures.bytes) at c.spot-spot.ensures));
      words_bound = omega (arith, c.next_outgoing-next.ensures, c.if-seq-next.false);
      seq_bound = omega (arith, c.if-seq-eq18446744073709551615.false);
    }

pub returns : goal.returns
returns c =
    made_words refl c.in-Ok.ensures.in_use (rw (c.in-Ok.ensures.shape, c.in-Ok.ensures.words, c.in-Ok.ensures.bytes) at c.spot-spot.ensures) c.record_none.new.words
    (a_number c.args.seq (next_is refl c.in-Ok.ensures.in_use (rw (c.in-Ok.ensures.shape, c.in-Ok.ensures.words, c.in-Ok.ensures.bytes) at c.spot-spot.ensures) c.next_outgoing-next.ensures) c.if-seq-next.false (omega (arith, c.if-seq-eq18446744073709551615.false)))
    c.record_none.auto.words (c.record_none.ensures c.args.shape.bytes)
