use Rattle.std.proofs.Common.{sym, ◌∙◌, length-set, arith}
use Rattle.store_areas.proofs.Ruling.{room_of, made_ready, made_unfit}
use Rattle.store_areas.proofs.make.Goals as goal

pub returns-then-not-long_enough : goal.returns-then-not-long_enough
returns-then-not-long_enough c = made_unfit _ _ _ (sym c.long_enough.ensures ∙ c.if-not-long_enough.true)

pub bounds-words-0 : goal.bounds-words-0
bounds-words-0 c = omega (arith, (room_of _ _ _ (sym c.long_enough.ensures ∙ c.if-not-long_enough.false)).words_long)

pub bounds-words-1 : goal.bounds-words-1
bounds-words-1 c = simp length-set (omega (arith, (room_of _ _ _ (sym c.long_enough.ensures ∙ c.if-not-long_enough.false)).words_long))

pub returns : goal.returns
returns c = made_ready _ _ _ (sym c.long_enough.ensures ∙ c.if-not-long_enough.false)
