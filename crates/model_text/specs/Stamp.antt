-- A time stamp: YYYYMMDD-HH:MM:SS, or that with `.` and 3, in version 2 also 6, 9 or 12 digits, of a day that exists. Assumes nothing.
use Rattle.std.specs.Prelude.{Bool, true, false, cond, ◌&&◌, ◌||◌, List, [], ◌∷◌, ◌++◌, ℕ, zero, suc, ◌+◌, ◌-◌, ◌*◌, leb, eqb, get_or}
use Rattle.model_text.specs.Calendar.{month_days}
use Rattle.model_text.specs.Version.{latest}

-- a digit, two digits of a number from lo to hi, or one byte
pub data Pattern : Type 0 where
  digit : Pattern
  pair : ℕ → ℕ → Pattern
  mark : ℕ → Pattern

unfoldable pub is_digit : ℕ → Bool
is_digit b = leb 48 b && leb b 57

-- the number of two digits
abbrev pub pair_number : ℕ → ℕ → ℕ
pair_number a b = (a - 48) * 10 + (b - 48)

unfoldable pub is_pair : ℕ → ℕ → ℕ → ℕ → Bool
is_pair lo hi a b = is_digit a && is_digit b && (leb lo (pair_number a b) && leb (pair_number a b) hi)

-- the bytes are these parts, one after the other, and nothing more
abbrev pub matches : List Pattern → List ℕ → Bool
matches [] [] = true
matches [] (b ∷ l) = false
matches (digit ∷ ps) [] = false
matches (digit ∷ ps) (b ∷ l) = is_digit b && matches ps l
matches (pair lo hi ∷ ps) [] = false
matches (pair lo hi ∷ ps) (a ∷ []) = false
matches (pair lo hi ∷ ps) (a ∷ b ∷ l) = is_pair lo hi a b && matches ps l
matches (mark m ∷ ps) [] = false
matches (mark m ∷ ps) (b ∷ l) = eqb b m && matches ps l

-- YYYYMMDD
abbrev pub date : List Pattern
date = digit ∷ digit ∷ digit ∷ digit ∷ pair 1 12 ∷ pair 1 31 ∷ []

-- -HH:MM:SS
abbrev pub clock : List Pattern
clock = mark 45 ∷ pair 0 23 ∷ mark 58 ∷ pair 0 59 ∷ mark 58 ∷ pair 0 60 ∷ []

-- n digits
abbrev pub digits : ℕ → List Pattern
digits zero = []
digits (suc n) = digit ∷ digits n

-- a point and n digits, or nothing for none
abbrev pub fraction : ℕ → List Pattern
fraction zero = []
fraction (suc n) = mark 46 ∷ digits (suc n)

-- the form of a stamp with n digits after the point
unfoldable pub has_digits : ℕ → List ℕ → Bool
has_digits n s = matches (date ++ clock ++ fraction n) s

-- the year, the month and the day that a date's digits name
abbrev pub year_of : List ℕ → ℕ
year_of s = pair_number (get_or s 0 0) (get_or s 1 0) * 100 + pair_number (get_or s 2 0) (get_or s 3 0)

abbrev pub month_of : List ℕ → ℕ
month_of s = pair_number (get_or s 4 0) (get_or s 5 0)

abbrev pub day_of : List ℕ → ℕ
day_of s = pair_number (get_or s 6 0) (get_or s 7 0)

-- the day exists in its month
unfoldable pub day_exists : List ℕ → Bool
day_exists s = leb (day_of s) (month_days (year_of s) (month_of s))

-- a stamp that every version takes
unfoldable pub is_short : List ℕ → Bool
is_short s = (has_digits 0 s || has_digits 3 s) && day_exists s

-- a stamp that the store keeps
unfoldable pub is_stamp : List ℕ → Bool
is_stamp s = (has_digits 0 s || has_digits 3 s || has_digits 6 s || has_digits 9 s || has_digits 12 s) && day_exists s

-- a stamp that reading takes in a version of the protocol: the latest takes each that the store keeps
unfoldable pub takes_stamp : ℕ → List ℕ → Bool
takes_stamp version s = cond (eqb version latest) (is_stamp s) (is_short s)

-- the greatest length of a stamp, and of one that every version takes
abbrev pub longest_stamp : ℕ
longest_stamp = 30

abbrev pub longest_short : ℕ
longest_short = 21
