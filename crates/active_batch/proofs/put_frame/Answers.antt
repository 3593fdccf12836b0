use native.Mathlib.Omega.{arith}
use borrow.Author.Rules.{rules}
use Rattle.active_batch.specs.Batch.{part_is, planned_changes}
use Rattle.active_header.proofs.Ends.{run_past}
use Rattle.active_batch.proofs.Framing.{put_whole}
use Rattle.active_batch.proofs.put_frame.Goals as goal

pub overflow_cast-plan-2 : goal.overflow_cast-plan-2
overflow_cast-plan-2 c = let few = c.requires.planned.few in search rules

pub put_changes-requires-clause-plan_in_bounds : goal.put_changes-requires-clause-plan_in_bounds
put_changes-requires-clause-plan_in_bounds c =
    let p = c.requires in
    omega (arith, p.size_in_bounds, p.planned.spans.sums, c.put_head.ensures.past, c.put_head.ensures.put.long, c.number.ensures.past, c.number.ensures.put.long)

pub number-requires-2 : goal.number-requires-2
number-requires-2 c =
    let a = c.args in
    let p = c.requires in
    omega (arith, p.size_in_bounds, p.planned.spans.sums, c.put_head.ensures.past, c.number.ensures.past, run_past (planned_changes a.batch.limit a.header.now a.log.now a.batch.from a.plan) c.put_changes.ensures, c.number.ensures.put.long, c.put_head.ensures.put.long, c.put_changes.ensures.long)

pub returns : goal.returns
returns c =
    let a = c.args in
    put_whole _ _ _ (part_is a.plan.last) (planned_changes a.batch.limit a.header.now a.log.now a.batch.from a.plan) c.requires.planned.spans c.number.ensures.put (rw c.part_of.ensures at c.put_head.ensures.put) c.put_changes.ensures c.number-2.ensures.put (search rules)
