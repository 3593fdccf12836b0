use Rattle.std.proofs.Common.{refl}
use Rattle.model_session.specs.Summary.{fnv_step}
use Rattle.store_log.proofs.fnv.step.Goals as goal

pub returns : goal.returns
unfolding fnv_step
returns c = refl
