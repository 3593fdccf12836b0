use Rattle.std.proofs.Common.{length, ◌/◌}
use Rattle.store_resend.proofs.Laws.{Lowering}
use Rattle.store_resend.proofs.Ranges.lowest_first.Given as goal

abbrev pub invariant-loop-j : goal.invariant-loop-j
invariant-loop-j l = Lowering l.self.words.now (length l.self.words.now / 2) l.low l.j
