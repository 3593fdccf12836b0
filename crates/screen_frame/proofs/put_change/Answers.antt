use Rattle.std.proofs.Common.{List, ℕ, ◌++◌, length, subst, codes}
use Rattle.model_screen.specs.Columns.{numbered}
use Rattle.screen_text.specs.Adding.{Adds}
use Rattle.screen_text.proofs.Laws.{adds_on}
use Rattle.screen_frame.proofs.put_change.Goals as goal

pub returns-in-Record : goal.returns-in-Record
returns-in-Record c =
    rw c.in-Record.is
    (subst (λ (l : List ℕ). Adds c.args.text.now (numbered (codes " out ") c.in-Record.n ++ numbered (codes " (") (length l) ++ codes ")") c.add.new.self) c.slice.ensures
    (adds_on (adds_on c.add_number-in-Record.ensures c.add_number-in-Record-2.ensures) c.add.ensures))
