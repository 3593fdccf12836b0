-- The program's lines: bytes as lower-case hexadecimal digits. Assumes nothing.
use Rattle.std.specs.Prelude.{Bool, true, false, cond, ◌&&◌, ◌||◌, List, [], ◌∷◌, ℕ, ◌+◌, ◌-◌, ◌*◌, ◌/◌, ◌%◌, leb, ltb, length}
use Rattle.std.proofs.Math.Option.{Option, none, some}

-- the value of a digit, 16 for a byte that is none
unfoldable pub digit_value : ℕ → ℕ
digit_value b = cond (leb 48 b && leb b 57) (b - 48) (cond (leb 97 b && leb b 102) (b - 87) 16)

abbrev pub byte_then : ℕ → Option (List ℕ) → Option (List ℕ)
byte_then x none = none
byte_then x (some xs) = some (x ∷ xs)

-- the bytes that the digits stand for: none for a bad digit or an odd number of them
abbrev pub bytes_from : List ℕ → Option (List ℕ)
bytes_from [] = some []
bytes_from (a ∷ []) = none
bytes_from (a ∷ b ∷ l) = cond (ltb (digit_value a) 16 && ltb (digit_value b) 16) (byte_then (digit_value a * 16 + digit_value b) (bytes_from l)) none

-- the greatest number of digits in a line
abbrev pub longest_line : ℕ
longest_line = 16384

abbrev pub is_blank : List ℕ → Bool
is_blank [] = true
is_blank (b ∷ l) = false

-- the bytes of a line: none for a bad digit, an odd, empty or long line
unfoldable pub line_bytes : List ℕ → Option (List ℕ)
line_bytes l = cond (is_blank l || ltb longest_line (length l)) none (bytes_from l)

-- the digit of a value below 16
unfoldable pub digit_of : ℕ → ℕ
digit_of v = cond (ltb v 10) (48 + v) (87 + v)

abbrev pub hex_of : List ℕ → List ℕ
hex_of [] = []
hex_of (b ∷ l) = digit_of (b / 16) ∷ digit_of (b % 16) ∷ hex_of l

-- a number below 100 in decimal
unfoldable pub decimal : ℕ → List ℕ
decimal n = cond (ltb n 10) ((48 + n) ∷ []) ((48 + n / 10) ∷ (48 + n % 10) ∷ [])

-- R, a space and the refusal
unfoldable pub refusal_text : ℕ → List ℕ
refusal_text n = 82 ∷ 32 ∷ decimal n
