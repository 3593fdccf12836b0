use Rattle.std.proofs.Common.{Bool, cond, List, [], ◌∷◌, ℕ, arith, sym, ap, ◌∙◌}
use Rattle.screen_text.proofs.Laws.{grouped_on, adds_none}
use Rattle.screen_text.proofs.text.Text.group.Goals.{then-are_threes, else-are_threes}
use Rattle.screen_text.proofs.text.Text.group.Goals as goal

abbrev comma : Bool → List ℕ
comma t = cond t (44 ∷ []) []

pub loop-i-preserved : goal.loop-i-preserved
loop-i-preserved c = elim c.if-are_threes.branch [
  | then-are_threes w ↦ rw w.self-is (grouped_on c.loop-i.invariant (omega (arith, c.loop-i-test.true)) c.put.ensures w.put-then-are_threes.ensures (ap comma (sym w.if-are_threes.true ∙ c.are_threes.ensures)))
  | else-are_threes w ↦ rw w.self-is (grouped_on c.loop-i.invariant (omega (arith, c.loop-i-test.true)) c.put.ensures adds_none (ap comma (sym w.if-are_threes.false ∙ c.are_threes.ensures)))
]
