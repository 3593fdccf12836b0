use Rattle.store_log.proofs.Summing.{hashing_ends}
use Rattle.store_log.proofs.log.Log.hash_from.Goals as goal

pub returns : goal.returns
returns c = hashing_ends _ _ _ _ _ _ _ _ c.loop-found.invariant.3 c.in-None.ensures.steps.1.0
