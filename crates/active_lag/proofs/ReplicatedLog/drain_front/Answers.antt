use Rattle.std.proofs.Common.{arith}
use Rattle.active_lag.proofs.Laws.{stopped}
use Rattle.active_lag.proofs.ReplicatedLog.drain_front.Goals as goal

pub returns-then-not-is_over : goal.returns-then-not-is_over
returns-then-not-is_over c =
    let a = c.args in
    let l = c.loop-drained in
    stopped a.max_lag a.last a.self l.drained l.through (omega arith) (omega arith) l.invariant (omega arith) c.is_over.ensures c.if-not-is_over.true
