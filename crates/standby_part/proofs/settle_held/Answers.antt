use Rattle.standby_part.proofs.Parts.{settled_so}
use Rattle.standby_part.proofs.settle_held.Goals as goal

pub returns-clause-is : goal.returns-clause-is
returns-clause-is c = rw c.settled.ensures (settled_so c.commit_held-applied.result c.commit_held-applied.ensures.is)
