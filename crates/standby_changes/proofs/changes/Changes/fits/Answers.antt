use mathlib.Core.Path.{◌∙◌}
use Rattle.standby_changes.proofs.Loops.{fitting, fit_next, fit_off, fit_bad}
use Rattle.standby_changes.proofs.changes.Changes.fits.Goals as goal

pub loop-op-init : goal.loop-op-init
loop-op-init c =
    let s = c.iter-op-items.ensures in
    rw c.into_iter-op-iterator.ensures.into_iter_gives (tt, tt, s.protocol, s.buf, rw s.whole (fitting _ c.args.self.now.run.now _ c.args.self.now.octets))

pub returns-in_default : goal.returns-in_default
returns-in_default c =
    let i = c.loop-op.invariant in
    fit_off _ c.outgoing_by.result i.4 (rw i.2 at c.in-Some.ensures.steps.2) (c.outgoing_by.ensures _) c.in_default.is

pub loop-op-preserved : goal.loop-op-preserved
loop-op-preserved c =
    let i = c.loop-op.invariant in
    let t = c.in-Some.ensures.steps in
    (tt, tt, t.0 ∙ i.2, t.1 ∙ i.3, fit_next _ c.outgoing_by.result i.4 (rw i.2 at t.2) (c.outgoing_by.ensures _) c.in-Some-outgoing_by.is)

pub returns : goal.returns
returns c =
    let i = c.loop-op.invariant in
    fit_bad _ i.4 (rw i.2 at c.in-None.ensures.steps.2.1)
