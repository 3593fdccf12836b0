use Rattle.fix_field.proofs.Scan.{Counting}
use Rattle.fix_field.proofs.read_number.Given as goal

abbrev pub invariant-loop-b : goal.invariant-loop-b
invariant-loop-b l = Counting l.text l.n l.b-index
