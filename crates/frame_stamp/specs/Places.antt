-- Some bytes of a list, by their place. Assumes nothing.
use Rattle.std.specs.Prelude.{List, [], ◌∷◌, ℕ, zero, suc, ◌+◌, get_or}

-- the k bytes of s from i on
abbrev pub slice_at : List ℕ → ℕ → ℕ → List ℕ
slice_at s i zero = []
slice_at s i (suc k) = get_or s i 0 ∷ slice_at s (i + 1) k
