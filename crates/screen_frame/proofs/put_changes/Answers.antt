use Rattle.std.proofs.Common.{suc, ◌-◌, ◌+◌, ◌≡◌, arith}
use Rattle.screen_frame.proofs.Laws.{one_more, no_more, all_done}
use Rattle.screen_frame.proofs.put_changes.Goals as goal

pub returns-in_default : goal.returns-in_default
returns-in_default c =
    let left : c.args.run.count - c.loop.counter ≡ suc (c.args.run.count - (c.loop.counter + 1)) = omega (arith, c.loop-test.true) in
    no_more _ (rw left at c.loop.invariant) (rw c.latest.ensures at c.in_default.ensures.read)

pub loop-preserved : goal.loop-preserved
loop-preserved c =
    let left : c.args.run.count - c.loop.counter ≡ suc (c.args.run.count - (c.loop.counter + 1)) = omega (arith, c.loop-test.true) in
    one_more c.in-Ok.op (rw left at c.loop.invariant) c.in-Ok.ensures.same (rw c.latest.ensures at c.in-Ok.ensures.read) c.put_change.ensures

pub returns : goal.returns
returns c = all_done c.loop.invariant (omega (arith, c.loop-test.false))
