use Rattle.std.proofs.Common.{arith, refl}
use borrow.Author.Tests.{le-ltb}
use Rattle.active_lag.proofs.Laws.{pushes}
use Rattle.active_lag.proofs.ReplicatedLog.queue.Goals as goal

pub returns : goal.returns
returns c =
    let a = c.args in
    let d = c.drain_front-drained in
    record {
      refusal = rw (le-ltb 64 a.self.count (omega arith)) refl;
      pushed = pushes a.max_lag a.self a.last d.result.drained d.result.through (omega arith) (omega arith) d.ensures c.copy_within.ensures.after;
    }
