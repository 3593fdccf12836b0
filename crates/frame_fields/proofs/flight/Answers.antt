use borrow.Author.Tests.{eq-eqb, ne_eqb}
use Rattle.frame_fields.proofs.flight.Goals as goal

pub returns-then-n-eq0 : goal.returns-then-n-eq0
returns-then-n-eq0 c = rw (eq-eqb _ _ c.if-n-eq0.true)

pub returns-else-n-eq0 : goal.returns-else-n-eq0
returns-else-n-eq0 c = rw (ne_eqb _ _ c.if-n-eq0.false)
