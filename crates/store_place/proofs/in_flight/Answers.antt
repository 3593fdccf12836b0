use Rattle.std.proofs.Common.{eq-eqb, ne_eqb}
use Rattle.store_place.specs.Place.{stored_flight}
use Rattle.store_place.proofs.in_flight.Goals as goal

pub returns-then-words-eq0 : goal.returns-then-words-eq0
unfolding stored_flight
returns-then-words-eq0 c = simp (eq-eqb _ _ c.if-words-eq0.true)

pub returns-else-words-eq0 : goal.returns-else-words-eq0
unfolding stored_flight
returns-else-words-eq0 c = simp (ne_eqb _ _ c.if-words-eq0.false)
