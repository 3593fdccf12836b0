use mathlib.Core.Path.{◌∙◌}
use Rattle.standby_apply.proofs.Loop.{starts, first_fine, first_fits, goes_on, made_bad}
use Rattle.standby_apply.proofs.apply_all.Goals as goal

pub loop-op-init : goal.loop-op-init
loop-op-init c =
    let s = c.iter-op-items.ensures in
    rw c.into_iter-op-iterator.ensures.into_iter_gives (tt, tt, cc, cc, rw s.whole (starts _ _ c.args.changes.now.run.now _ _ c.args.changes.now.octets c.requires.run_value))

pub apply-requires-clause-op_value : goal.apply-requires-clause-op_value
apply-requires-clause-op_value c =
    let i = c.loop-op.invariant in
    rw i.3 at (first_fine _ _ i.4 (rw i.2 at c.in-Some.ensures.steps.2))

pub apply-requires-clause-op_value_2 : goal.apply-requires-clause-op_value_2
apply-requires-clause-op_value_2 c =
    let i = c.loop-op.invariant in
    rw i.3 at (first_fits _ _ i.4 (rw i.2 at c.in-Some.ensures.steps.2))

pub loop-op-preserved : goal.loop-op-preserved
loop-op-preserved c =
    let i = c.loop-op.invariant in
    let t = c.in-Some.ensures.steps in
    (tt, tt, t.0 ∙ i.2, t.1 ∙ i.3, goes_on _ _ i.4 (rw i.2 at t.2) c.apply.auto.words c.apply.auto.bytes c.requires.in_bounds (rw i.3 c.apply.ensures))

pub returns : goal.returns
returns c =
    let i = c.loop-op.invariant in
    made_bad _ _ i.4 (rw i.2 at c.in-None.ensures.steps.2.1)
