use Rattle.fix_field.specs.Reading.{Reaches}
use Rattle.fix_field.proofs.next_end.Given as goal

abbrev pub invariant-loop : goal.invariant-loop
invariant-loop l = Reaches l.file l.from l.i
