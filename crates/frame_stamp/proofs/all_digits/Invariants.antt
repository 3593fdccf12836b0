use Rattle.frame_stamp.proofs.Digits.{Upto}
use Rattle.frame_stamp.proofs.all_digits.Given as goal

abbrev pub invariant-loop-byte : goal.invariant-loop-byte
invariant-loop-byte l = Upto l.s l.ok l.byte-index
