use Rattle.std.proofs.Common.{sym, ◌∙◌, arith}
use Rattle.store_areas.proofs.Ruling.{rules_of}
use Rattle.store_areas.proofs.in_use.Goals as goal

pub bounds-words-0 : goal.bounds-words-0
bounds-words-0 c = omega (arith, (rules_of _ _ _ (sym c.allowed.ensures ∙ c.if-allowed.true)).room.words_long)
