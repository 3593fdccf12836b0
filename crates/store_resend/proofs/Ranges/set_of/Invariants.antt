use Rattle.std.proofs.Common.{length, ◌/◌}
use Rattle.store_resend.proofs.Laws.{Gathering}
use Rattle.store_resend.proofs.Ranges.set_of.Given as goal

abbrev pub invariant-loop-j : goal.invariant-loop-j
invariant-loop-j l = Gathering l.self.words.now l.n (length l.self.words.now / 2) l.set l.until l.j
