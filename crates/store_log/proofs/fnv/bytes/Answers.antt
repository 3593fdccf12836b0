use Rattle.std.proofs.Common.{refl, ap, ◌∙◌, arith}
use Rattle.model_session.specs.Summary.{fnv_step}
use Rattle.store_log.proofs.Hash.{fnv_next, fnv_done}
use Rattle.store_log.proofs.fnv.bytes.Goals as goal

pub loop-x-init : goal.loop-x-init
loop-x-init c = refl

pub loop-x-preserved : goal.loop-x-preserved
loop-x-preserved c = fnv_next c.args.hash _ _ c.args.s.now c.loop-x.x-index c.loop-x.invariant (omega arith) (c.step-carried.ensures ∙ ap (fnv_step c.loop-x.carried) c.from.ensures)

pub returns : goal.returns
returns c = fnv_done c.args.hash _ c.args.s.now c.loop-x.x-index c.loop-x.invariant (omega arith)
