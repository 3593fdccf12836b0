-- What an operation leaves alone. Assumes nothing.
use Rattle.std.specs.Prelude.{◌≡◌, ℕ, List, length, take, drop}

-- as many elements as before, and all but those from a to e are as they were
pub record Only (a e : ℕ) (l l' : List ℕ) : Type 0 where
  pub same_length : length l' ≡ length l
  pub front : take a l' ≡ take a l
  pub back : drop e l' ≡ drop e l
