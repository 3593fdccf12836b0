use Rattle.std.proofs.Common.{refl, sym, ◌∙◌, arith}
use Rattle.c_store.proofs.Laws.{cannot, made_both, by_test}
use Rattle.c_changes.proofs.store_set_created_at.Goals as goal

pub returns-then-not-is_stamp : goal.returns-then-not-is_stamp
returns-then-not-is_stamp c = cannot refl c.in-Ok.ensures.in_use (by_test 6 c.is_stamp.ensures c.if-not-is_stamp.true) (omega arith) c.number-then-not-is_stamp.ensures

pub set_created_at-requires : goal.set_created_at-requires
set_created_at-requires c =
    record { in_bounds = omega (arith, (rw (c.in-Ok.ensures.shape, c.in-Ok.ensures.words, c.in-Ok.ensures.bytes) at c.spot-spot.ensures)); in_bounds_2 = omega (arith, (rw (c.in-Ok.ensures.shape, c.in-Ok.ensures.words, c.in-Ok.ensures.bytes) at c.spot-spot.ensures)); text_value = sym c.is_stamp.ensures ∙ c.if-not-is_stamp.false }

pub returns : goal.returns
returns c =
    made_both refl c.in-Ok.ensures.in_use (rw (c.in-Ok.ensures.shape, c.in-Ok.ensures.words, c.in-Ok.ensures.bytes) at c.spot-spot.ensures) c.set_created_at.new.words c.set_created_at.new.bytes (by_test 6 c.is_stamp.ensures c.if-not-is_stamp.false)
    c.set_created_at.auto.words c.set_created_at.auto.bytes (c.set_created_at.ensures c.args.shape.bytes c.args.shape.messages)
