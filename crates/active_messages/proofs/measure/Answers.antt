use Rattle.std.proofs.Common.{rules, Fits, w64, arith, refl, sym, ap, ◌∙◌}
use Rattle.store_log.proofs.Turning.{Next, next_at}
use Rattle.store_log.specs.declared.LogPosition.{LogPosition}
use Rattle.active_messages.proofs.Numbers.{below}
use Rattle.active_messages.proofs.Measuring.{last_stop, turns}
use Rattle.active_messages.proofs.measure.Goals.{In-Some}
use Rattle.active_messages.proofs.measure.Goals as goal

next : (c : In-Some) → Next c.args.log.now c.loop-found.«end» c.in-Some.found
next c =
    let i = c.loop-found.invariant in
    next_at _ _ _ _ _ i.2 i.3 c.in-Some.ensures.steps.1.1

pub overflow_add-next : goal.overflow_add-next
overflow_add-next c =
    let fits : Fits w64 (c.args.log.now.next) = search rules in
    omega (arith, fits.fits, below _ _ _ _ _ _ _ _ (next (goal.at.overflow_add-next c).In-Some).is)

pub loop-found-preserved : goal.loop-found-preserved
loop-found-preserved c =
    let i = c.loop-found.invariant in
    let steps = c.in-Some.ensures.steps in (
      tt,
      tt,
      steps.0 ∙ i.2,
      steps.1.0,
      turns _ _ _ _ _ _ _ _ _ _ _ _ _ _ _ _ _ _ _ _ _ _ i.4 (sym c.is_full.ensures ∙ c.if-is_full.false) refl (next (goal.at.loop-found-preserved c).In-Some) c.skips-skip.ensures.is,
    )

pub returns-in-None : goal.returns-in-None
returns-in-None c = last_stop _ _ _ _ _ _ _ _ _ _ _ _ _ _ _ c.loop-found.invariant.4 (ap (λ (p : LogPosition). p.left) (sym c.loop-found.invariant.3) ∙ c.in-None.ensures.steps.1.0)
