use Rattle.std.proofs.Common.{◌-◌}
use Rattle.frame_utf8.proofs.Ascii.{Gathered}
use Rattle.frame_utf8.proofs.is_block.Given as goal

abbrev pub invariant-loop-j : goal.invariant-loop-j
invariant-loop-j l = Gathered 32 l.s l.at l.m l.j

abbrev pub decreases-loop-j : goal.decreases-loop-j
decreases-loop-j l = 32 - l.j
