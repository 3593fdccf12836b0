use Rattle.std.proofs.Common.{arith}
use mathlib.Core.Path.{◌∙◌}
use Rattle.standby_changes.proofs.Loops.{summing, summed, sum_fits, sum_bad}
use Rattle.standby_changes.proofs.changes.Changes.message_bytes.Goals as goal

pub loop-op-init : goal.loop-op-init
loop-op-init c =
    let s = c.iter-op-items.ensures in
    rw c.into_iter-op-iterator.ensures.into_iter_gives (tt, tt, s.protocol, s.buf, rw s.whole (summing _ c.args.self.now.run.now c.args.self.now.octets))

pub overflow_add-sum : goal.overflow_add-sum
overflow_add-sum c =
    let i = c.loop-op.invariant in
    omega (arith, sum_fits _ {n = c.message_length-sum.result} i.4 (rw i.2 at c.in-Some.ensures.steps.2) (rw i.3 c.message_length-sum.ensures))

pub loop-op-preserved : goal.loop-op-preserved
loop-op-preserved c =
    let i = c.loop-op.invariant in
    let t = c.in-Some.ensures.steps in
    (tt, tt, t.0 ∙ i.2, t.1 ∙ i.3, summed _ i.4 (rw i.2 at t.2) (rw i.3 c.message_length-sum.ensures))

pub returns : goal.returns
returns c =
    let i = c.loop-op.invariant in
    sum_bad _ i.4 (rw i.2 at c.in-None.ensures.steps.2.1)
