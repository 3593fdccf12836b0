use Rattle.std.proofs.Common.{◌-◌, length}
use Rattle.frame_utf8.proofs.Scan.{Scanned}
use Rattle.frame_utf8.proofs.is_utf8.Given as goal

abbrev pub invariant-loop-i : goal.invariant-loop-i
invariant-loop-i l = Scanned l.s l.i

abbrev pub decreases-loop-i : goal.decreases-loop-i
decreases-loop-i l = length l.s - l.i
