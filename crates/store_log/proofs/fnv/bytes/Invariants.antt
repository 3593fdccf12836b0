use Rattle.std.proofs.Common.{◌≡◌, drop}
use Rattle.model_session.specs.Summary.{fnv}
use Rattle.store_log.proofs.fnv.bytes.Given as goal

abbrev pub invariant-loop-x : goal.invariant-loop-x
invariant-loop-x l = fnv l.hash l.s ≡ fnv l.carried (drop l.x-index l.s)
