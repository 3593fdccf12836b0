use Rattle.std.proofs.Common.{◌-◌, length}
use Rattle.fix_message.proofs.Closing.{Closing}
use Rattle.fix_message.proofs.find_end.Given as goal

abbrev pub invariant-loop-i : goal.invariant-loop-i
invariant-loop-i l = Closing l.file l.from l.i l.number

abbrev pub decreases-loop-i : goal.decreases-loop-i
decreases-loop-i l = length l.file - l.i
