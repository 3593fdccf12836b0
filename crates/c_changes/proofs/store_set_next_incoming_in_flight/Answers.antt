use Rattle.std.proofs.Common.{rules}
use Rattle.c_changes.proofs.store_set_next_incoming_in_flight.Goals as goal

pub returns : goal.returns
returns c = c.change_words.ensures _ (λ x x' b l r. search rules)
