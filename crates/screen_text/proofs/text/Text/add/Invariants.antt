use Rattle.std.proofs.Common.{take}
use Rattle.screen_text.specs.Adding.{Adds}
use Rattle.screen_text.proofs.text.Text.add.Given as goal

abbrev pub invariant-loop-b : goal.invariant-loop-b
invariant-loop-b l = Adds l.fn.self (take l.b-index l.s) l.self
