use Rattle.active_quorum.proofs.Laws.{Walking}
use Rattle.active_quorum.proofs.area.QuorumView.place_of.Given as goal

abbrev pub invariant-loop-i : goal.invariant-loop-i
invariant-loop-i l = Walking l.words l.handle l.below l.i

abbrev pub decreases-loop-i : goal.decreases-loop-i
decreases-loop-i l = l.below
