use Rattle.std.proofs.Common.{rules}
use Rattle.active_books_next.proofs.Nexts.{open_is, not_open, met_or_not}
use Rattle.active_books_next.proofs.is_open.Goals as goal

pub returns : goal.returns
returns c = met_or_not _ _ _ _ c.find_met.ensures c.is_some_and.ensures (not_open _ _) (λ i a p. search (rules, p, open_is _ _ i a))
