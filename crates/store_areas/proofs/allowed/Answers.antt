use Rattle.std.proofs.Common.{sym, ◌∙◌, arith}
use Rattle.store_areas.proofs.Ruling.{room_of, counts_judged, no_room}
use Rattle.store_areas.proofs.allowed.Goals as goal

pub bounds-words-0 : goal.bounds-words-0
bounds-words-0 c = omega (arith, (room_of _ _ _ (sym c.long_enough.ensures ∙ c.if-long_enough.true)).words_long)

pub bounds-words-1 : goal.bounds-words-1
bounds-words-1 c = omega (arith, (room_of _ _ _ (sym c.long_enough.ensures ∙ c.if-long_enough.true)).words_long)

pub returns-then-long_enough : goal.returns-then-long_enough
returns-then-long_enough c = counts_judged c.args.shape c.args.words.now c.args.bytes.now (sym c.long_enough.ensures ∙ c.if-long_enough.true)

pub returns-else-long_enough : goal.returns-else-long_enough
returns-else-long_enough c = c.if-long_enough.false ∙ no_room c.args.shape c.args.words.now c.args.bytes.now (sym c.long_enough.ensures ∙ c.if-long_enough.false)
