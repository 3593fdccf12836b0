use Rattle.std.proofs.Common.{◌≡◌}
use Rattle.standby_row.specs.Row.{cleared_from}
use Rattle.standby_row.proofs.clear.Given as goal

abbrev pub invariant-loop-bound : goal.invariant-loop-bound
invariant-loop-bound l = cleared_from l.bound-index l.bound-items ≡ cleared_from 0 l.initial.bound-items
