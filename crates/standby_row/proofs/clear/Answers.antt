use Rattle.std.proofs.Common.{arith, length, ◌≤◌, ◌<◌, sym, ◌∙◌}
use Rattle.standby_row.proofs.Lists.{clears_next, clears_end, freed}
use Rattle.standby_row.proofs.clear.Goals as goal

pub loop-bound-preserved : goal.loop-bound-preserved
loop-bound-preserved c =
    let here : c.loop-bound.bound-index < length c.loop-bound.bound-items = omega arith in
    clears_next c.loop-bound.bound-index c.loop-bound.bound-items here ∙ c.loop-bound.invariant

pub returns : goal.returns
returns c =
    let over : length c.loop-bound.bound-items ≤ c.loop-bound.bound-index = omega arith in
    freed c.args.from c.min-start.result c.args.row.now c.loop-bound.bound-items c.min-start.ensures (sym (clears_end c.loop-bound.bound-index c.loop-bound.bound-items over) ∙ c.loop-bound.invariant)
