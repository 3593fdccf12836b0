use Rattle.std.proofs.Common.{◌≡◌, length}
use Rattle.base_hex.proofs.Laws.{Reading}
use Rattle.base_hex.proofs.read_digits.Given as goal

abbrev pub invariant-loop-i : goal.invariant-loop-i
invariant-loop-i l = (l.i-iterator.iter.size ≡ 2) × Reading (length l.initial.out) l.line l.out l.i-iterator.count l.i-iterator.iter.rest.now
