use Rattle.standby_row.proofs.Walk.{Walked}
use Rattle.standby_row.proofs.spots_in.Given as goal

abbrev pub invariant-loop-at : goal.invariant-loop-at
invariant-loop-at g l = Walked l.row l.handle l.places l.room g.row.CELLS l.at l.places_met l.handles_met l.own l.free l.broken l.apart

abbrev pub decreases-loop-at : goal.decreases-loop-at
decreases-loop-at g l = l.at
