use Rattle.screen_text.proofs.Laws.{Grouped}
use Rattle.screen_text.proofs.text.Text.group.Given as goal

abbrev pub invariant-loop-i : goal.invariant-loop-i
invariant-loop-i l = Grouped l.fn.self l.digits l.i l.self
