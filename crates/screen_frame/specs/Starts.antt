-- The beginning of a text in an area. Assumes nothing.
use Rattle.std.specs.Prelude.{ℕ, ◌≡◌, min, List, length, take}

-- the area has a text's first bytes, at most so many
pub record Starts (most : ℕ) (t area : List ℕ) (n : ℕ) : Type 0 where
  pub size : n ≡ min most (length t)
  pub is : take n area ≡ take most t
