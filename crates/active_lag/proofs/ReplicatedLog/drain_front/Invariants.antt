use Rattle.std.proofs.Common.{take}
use Rattle.active_lag.proofs.Laws.{Draining}
use Rattle.active_lag.proofs.ReplicatedLog.drain_front.Given as goal

abbrev pub invariant-loop-drained : goal.invariant-loop-drained
invariant-loop-drained l = Draining l.max_lag l.last l.self.drained_through (take l.self.count l.self.queued) l.drained l.through
