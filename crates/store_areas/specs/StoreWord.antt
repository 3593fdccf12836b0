-- The words of the store before and up to those of its places. Assumes nothing.
use Rattle.std.specs.Prelude.{ℕ}

-- how many places are in use
abbrev pub used : ℕ
used = 0

-- how many commits are pending, and from where on they stand
abbrev pub pending : ℕ
pending = 1

abbrev pub commits : ℕ
commits = 2

-- the words of place 0, and then of the others
abbrev pub places : ℕ
places = 66
