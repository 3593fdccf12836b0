-- What reading a line answers, and what writing digits leaves. Assumes nothing.
use Rattle.std.specs.Prelude.{◌≡◌, false, true, ◌&&◌, List, ◌++◌, ℕ, ◌+◌, ◌*◌, ◌≤◌, ltb, length, take, drop, Option, Some, None, MatchOption}
use Rattle.std.proofs.Math.Option as list_option
use Rattle.std.proofs.Math.Option.{none, some}
use Rattle.model_text.specs.Hex.{digit_value}

-- the byte of two digits, or none where one of them is no digit
abbrev pub IsByteOf : ℕ → ℕ → Option ℕ → Type 0
IsByteOf a b r =
    MatchOption r ((ltb (digit_value a) 16 && ltb (digit_value b) 16) ≡ false)
    (λ v. ((ltb (digit_value a) 16 && ltb (digit_value b) 16) ≡ true) × (v ≡ digit_value a * 16 + digit_value b))

-- the bytes that stand at the start of the area
abbrev pub line_read : List ℕ → Option ℕ → list_option.Option (List ℕ)
line_read out (Some n) = some (take n out)
line_read out None = none

abbrev pub line_length : Option ℕ → ℕ
line_length (Some n) = n
line_length None = 0

-- the answer gives these bytes, and they stand within the area
pub record ReadsLine (bs : list_option.Option (List ℕ)) (out : List ℕ) (r : Option ℕ) : Type 0 where
  pub bytes : line_read out r ≡ bs
  pub within : line_length r ≤ length out

-- these bytes at the start, and the rest as it was
abbrev pub WroteFront : List ℕ → List ℕ → List ℕ → Type 0
WroteFront bs before after = after ≡ bs ++ drop (length bs) before

-- the same, and how many they are
pub record Puts (bs before after : List ℕ) (n : ℕ) : Type 0 where
  pub count : n ≡ length bs
  pub wrote : WroteFront bs before after
