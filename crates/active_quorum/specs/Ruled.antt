-- The rules of a lent area, one by one. Assumes nothing.
use Rattle.std.specs.Prelude.{List, ℕ, ◌≤◌, length, get_or}

pub record QuorumRules (w : List ℕ) : Type 0 where
  pub long : 2564 ≤ length w
  pub members : 1 ≤ get_or w 0 0
  pub few : get_or w 0 0 ≤ 5
  pub needed : 1 ≤ get_or w 1 0
  pub quorum : get_or w 1 0 ≤ get_or w 0 0
  pub count : get_or w 3 0 ≤ 256
