use Rattle.std.proofs.Common.{refl, sym, ◌∙◌, arith}
use Rattle.c_store.proofs.Laws.{cannot, made_both, by_test}
use Rattle.c_changes.proofs.store_set_marks.Goals as goal

pub returns-then-not-is_marks : goal.returns-then-not-is_marks
returns-then-not-is_marks c = cannot refl c.in-Ok.ensures.in_use (by_test 7 c.is_marks.ensures c.if-not-is_marks.true) (omega arith) c.number-then-not-is_marks.ensures

pub set_marks-requires : goal.set_marks-requires
set_marks-requires c =
    record { in_bounds = omega (arith, (rw (c.in-Ok.ensures.shape, c.in-Ok.ensures.words, c.in-Ok.ensures.bytes) at c.spot-spot.ensures)); in_bounds_2 = omega (arith, (rw (c.in-Ok.ensures.shape, c.in-Ok.ensures.words, c.in-Ok.ensures.bytes) at c.spot-spot.ensures)); text_value = sym c.is_marks.ensures ∙ c.if-not-is_marks.false }

pub returns : goal.returns
returns c =
    made_both refl c.in-Ok.ensures.in_use (rw (c.in-Ok.ensures.shape, c.in-Ok.ensures.words, c.in-Ok.ensures.bytes) at c.spot-spot.ensures) c.set_marks.new.words c.set_marks.new.bytes (by_test 7 c.is_marks.ensures c.if-not-is_marks.false)
    c.set_marks.auto.words c.set_marks.auto.bytes (c.set_marks.ensures c.args.shape.bytes c.args.shape.messages)
