-- The figure shown, as C gets it. Assumes nothing.
use Rattle.std.specs.Prelude.{◌≡◌, ℕ, cond, List}
use Rattle.model_quorum.specs.Counts.{shown}
use Rattle.active_quorum.specs.Area.{quorum_allowed, quorum_of, shown_of}
use Rattle.c_quorum.specs.declared.Shown.{Shown}

-- 25 for an area that breaks the rules, 37 for an unbound handle, else 0 and the figure
pub record TellsShown (w : List ℕ) (h : ℕ) (r : Shown) : Type 0 where
  pub refusal : r.refusal ≡ cond (quorum_allowed w) (shown_of (shown (quorum_of w) h)).0 25
  pub number : r.number.0 ≡ cond (quorum_allowed w) (shown_of (shown (quorum_of w) h)).1 0
