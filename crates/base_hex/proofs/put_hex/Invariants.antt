use Rattle.base_hex.proofs.Laws.{Writing}
use Rattle.base_hex.proofs.put_hex.Given as goal

abbrev pub invariant-loop-i : goal.invariant-loop-i
invariant-loop-i l = Writing l.src l.initial.out l.out l.i
