use Rattle.std.proofs.Common.{◌-◌, length}
use Rattle.fix_message.proofs.Skimming.{Sought}
use Rattle.fix_message.proofs.find_sequence.Given as goal

abbrev pub invariant-loop-i : goal.invariant-loop-i
invariant-loop-i l = Sought l.file l.from l.i

abbrev pub decreases-loop-i : goal.decreases-loop-i
decreases-loop-i l = length l.file - l.i
