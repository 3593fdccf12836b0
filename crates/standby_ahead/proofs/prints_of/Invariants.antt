use Rattle.standby_ahead.proofs.Prints.{Printing}
use Rattle.standby_ahead.proofs.prints_of.Given as goal

abbrev pub invariant-loop-i : goal.invariant-loop-i
invariant-loop-i l = Printing l.view.shape l.view.words.now l.view.bytes.now l.out l.i
