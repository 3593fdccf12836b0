use Rattle.std.proofs.Common.{List, ℕ, ◌++◌, ap, arith, codes}
use Rattle.model_screen.specs.Columns.{shown}
use Rattle.screen_frame.proofs.Laws.{flows_as, short_what, long_what}
use Rattle.screen_frame.proofs.flow_what.Goals as goal

pub returns-then-len-le-WIDTH : goal.returns-then-len-le-WIDTH
returns-then-len-le-WIDTH c = flows_as (rw c.spaces.ensures at c.flow.ensures) (ap (λ (l : List ℕ). shown (codes " " ++ l)) (short_what _ _ c.write_what-len.ensures (omega (arith, c.if-len-le-WIDTH.true))))

pub returns-else-len-le-WIDTH : goal.returns-else-len-le-WIDTH
returns-else-len-le-WIDTH c = flows_as c.flow-else-len-le-WIDTH.ensures (ap (λ (l : List ℕ). shown (codes " " ++ l)) (long_what _ _ c.write_what-len.ensures (omega (arith, c.if-len-le-WIDTH.false))))
