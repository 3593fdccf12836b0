-- A flag is a byte, and every value has a meaning: 0 is not set, all others are. Assumes nothing.
use Rattle.std.specs.Prelude.{ℕ, Bool, cond, not, eqb}

abbrev pub is_set : ℕ → Bool
is_set f = not (eqb f 0)

-- a flag as it is written
abbrev pub byte : Bool → ℕ
byte b = cond b 1 0
