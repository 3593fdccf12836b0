use Rattle.std.proofs.Common.{rules, Fits, w64, arith, refl, sym, ap, ◌∙◌, length, length-take, length-drop, drop}
use Rattle.store_log.proofs.Turning.{Next, next_at}
use Rattle.active_messages.proofs.Numbers.{below}
use Rattle.active_messages.proofs.Sending.{full_stop, last_stop, has_room, goes_on}
use Rattle.active_messages.proofs.put_messages.Goals.{In-Some}
use Rattle.active_messages.proofs.put_messages.Goals as goal

next : (c : In-Some) → Next c.args.log.now c.loop-found.found-iterator.position c.in-Some.found
next c = next_at _ _ _ _ _ c.loop-found.invariant.2 refl c.in-Some.ensures.steps.1.1

pub returns-then-is_full : goal.returns-then-is_full
returns-then-is_full c = full_stop _ _ _ _ _ _ _ _ _ _ _ _ _ _ _ c.loop-found.invariant.3 (sym c.is_full.ensures ∙ c.if-is_full.true)

pub put_sent-requires-clause-parts_in_bounds : goal.put_sent-requires-clause-parts_in_bounds
put_sent-requires-clause-parts_in_bounds c =
    let n = next (goal.at.put_sent-requires-clause-parts_in_bounds c).In-Some in
    let parts = c.parts-parts.ensures in
    let bytes = c.args.log.now.bytes.now in
    let span = c.in-Some.found.span in
    omega (
      arith,
      ap length parts.first,
      ap length parts.rest,
      length-take span.first (drop span.start bytes),
      length-drop span.start bytes,
      length-take span.rest bytes,
      n.inside,
      n.front,
      has_room _ _ _ _ _ _ _ _ _ _ _ _ _ _ _ _ _ _ _ _ _ c.loop-found.invariant.3 (sym c.is_full.ensures ∙ c.if-is_full.false) refl n c.requires.left_in_bounds,
    )

pub overflow_add-next : goal.overflow_add-next
overflow_add-next c =
    let fits : Fits w64 (c.args.log.now.next) = search rules in
    omega (arith, fits.fits, below _ _ _ _ _ _ _ _ (next (goal.at.overflow_add-next c).In-Some).is)

pub loop-found-preserved : goal.loop-found-preserved
loop-found-preserved c =
    let i = c.loop-found.invariant in
    let steps = c.in-Some.ensures.steps in
    let parts = c.parts-parts.ensures in
    let n = next (goal.at.loop-found-preserved c).In-Some in
    let wrote = rw (parts.first, parts.rest) at c.put_sent.ensures in
    (tt, tt, steps.0 ∙ i.2, rw steps.1.0 (goes_on _ _ _ _ _ _ _ _ _ _ _ _ _ _ _ _ _ _ _ _ _ i.3 (sym c.is_full.ensures ∙ c.if-is_full.false) refl n _ wrote))

pub returns-in-None : goal.returns-in-None
returns-in-None c = last_stop _ _ _ _ _ _ _ _ _ _ _ _ _ _ _ c.loop-found.invariant.3 c.in-None.ensures.steps.1.0
