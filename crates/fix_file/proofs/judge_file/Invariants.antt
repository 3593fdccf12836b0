use Rattle.std.proofs.Common.{◌-◌, length}
use Rattle.fix_file.proofs.Turns.{Judging}
use Rattle.fix_file.proofs.judge_file.Given as goal

abbrev pub invariant-loop-at : goal.invariant-loop-at
invariant-loop-at l = Judging l.file l.at l.last

abbrev pub decreases-loop-at : goal.decreases-loop-at
decreases-loop-at l = length l.file - l.at
