use Rattle.std.proofs.Common.{map, take}
use Rattle.model_screen.specs.Columns.{visible}
use Rattle.screen_text.specs.Adding.{Adds}
use Rattle.screen_text.proofs.text.Text.show.Given as goal

abbrev pub invariant-loop-b : goal.invariant-loop-b
invariant-loop-b l = Adds l.fn.self (map visible (take l.b-index l.s)) l.self
