-- Small laws of lists and of truth values that several crates need. Assumes nothing.
use Prim.Native.Nat.{ℕ, zero, suc, ◌+◌}
use mathlib.Core.Path.{◌≡◌}
use mathlib.Core.List.{List, [], ◌∷◌}
use native.Mathlib.Nat.{zero-add, suc-add}
use lib.ListN.{take, drop}
use lib.Seq.{take-nil}
pub use Rattle.std.proofs.lemmas.Bool.{and_parts as both}

pub drop_take : (m n : ℕ) (l : List ℕ) → drop m (take (m + n) l) ≡ take n (drop m l)
drop_take zero n l = rw zero-add
drop_take (suc m) n [] = rw (suc-add, take-nil n)
drop_take (suc m) n (x ∷ xs) = rw suc-add (drop_take m n xs)
