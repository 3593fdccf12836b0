use Rattle.std.proofs.Common.{◌-◌, length}
use Rattle.frame_utf8.proofs.Ascii.{Gathered}
use Rattle.frame_utf8.proofs.is_ascii.Given as goal

abbrev pub invariant-loop-i : goal.invariant-loop-i
invariant-loop-i l = Gathered (length l.s) l.s 0 l.m l.i

abbrev pub decreases-loop-i : goal.decreases-loop-i
decreases-loop-i l = length l.s - l.i
