use Rattle.std.proofs.Common.{rules}
use Rattle.c_changes.proofs.store_reset.Goals as goal

pub returns : goal.returns
returns c = c.change_words.ensures _ (λ x x' b l r. search rules)
