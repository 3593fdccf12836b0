use Rattle.std.proofs.Common.{refl, sym, ◌∙◌, arith}
use Rattle.active_books_area.proofs.Laws.{ruled_of, too_short, by_counts}
use Rattle.active_books_area.proofs.check_rules.Goals as goal

pub returns-then-words-lt-WORDS : goal.returns-then-words-lt-WORDS
returns-then-words-lt-WORDS c = (sym (too_short c.args.words.now (omega arith)), refl)

pub returns-then-met-behind : goal.returns-then-met-behind
returns-then-met-behind c = ruled_of c.args.words.now (sym (by_counts c.args.words.now (omega arith)) ∙ c.if-met-behind.true)

pub returns-else-met-behind : goal.returns-else-met-behind
returns-else-met-behind c = (sym (by_counts c.args.words.now (omega arith)) ∙ c.if-met-behind.false, refl)
