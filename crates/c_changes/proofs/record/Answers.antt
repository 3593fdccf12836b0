use Rattle.std.proofs.Common.{refl, arith}
use Rattle.c_store.proofs.Laws.{cannot, next_is, recorded, none_left}
use Rattle.c_changes.proofs.record.Goals as goal

pub returns-then-seq : goal.returns-then-seq
returns-then-seq c =
    cannot refl c.in-Ok.ensures.in_use (none_left (next_is refl c.in-Ok.ensures.in_use (rw (c.in-Ok.ensures.shape, c.in-Ok.ensures.words, c.in-Ok.ensures.bytes) at c.spot-spot.ensures) c.next_outgoing-seq.ensures) c.if-seq.true) (omega arith) c.number-then-seq.ensures

pub record-requires : goal.record-requires
record-requires c =
    record { max_in_bounds = omega (arith, (rw (c.in-Ok.ensures.shape, c.in-Ok.ensures.words, c.in-Ok.ensures.bytes) at c.spot-spot.ensures)); in_bounds = omega (arith, (rw (c.in-Ok.ensures.shape, c.in-Ok.ensures.words, c.in-Ok.ensures.bytes) at c.spot-spot.ensures)); seq_value = c.next_outgoing-seq.ensures; seq_bound = omega (arith, c.if-seq.false) }

pub returns : goal.returns
returns c =
    recorded refl c.in-Ok.ensures.in_use (rw (c.in-Ok.ensures.shape, c.in-Ok.ensures.words, c.in-Ok.ensures.bytes) at c.spot-spot.ensures) c.next_outgoing-seq.result c.args.text.now c.«record».new.words c.«record».new.bytes c.next_outgoing-seq.ensures
    (omega (arith, c.if-seq.false)) c.«record».auto.words c.«record».auto.bytes (c.«record».ensures c.args.shape.bytes (rw (c.in-Ok.ensures.shape, c.in-Ok.ensures.words, c.in-Ok.ensures.bytes) at c.spot-spot.ensures).bytes_part)
