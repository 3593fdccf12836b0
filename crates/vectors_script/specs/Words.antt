-- The numbers that a text's words are, read from its front. Assumes nothing.
use Rattle.std.specs.Prelude.{◌≡◌, ◌<◌, ◌≤◌, ◌^◌, List, ℕ, zero, suc, length, get_or, Option, Some, SomeIff, unwrap_or}
use Rattle.std.specs.Borrow.{Bor}
use Rattle.std.specs.Str.{NoCharPasses}
use Rattle.std.specs.Char.{is_not_whitespace}
use Rattle.std.specs.Str.Iter.{split_whitespace_rest, split_whitespace_steps}
use Rattle.std.specs.Str.Parse.{IsNumeral, digits_value, without_leading_plus}
use Rattle.std.specs.declared.str.SplitWhitespace.{SplitWhitespace}

-- the word is the decimal digits of a number of 64 bits, before which a plus may stand
abbrev pub IsNumber : List ℕ → Type 0
IsNumber word = IsNumeral 10 (without_leading_plus word) × (digits_value 10 (without_leading_plus word) < 2 ^ 64)

-- n is the word's number, 0 where it is none
abbrev pub IsNumberOf : List ℕ → ℕ → Type 0
IsNumberOf word n = (number : Option ℕ) × SomeIff number (IsNumber word) (digits_value 10 (without_leading_plus word)) × (n ≡ unwrap_or number 0)

-- the first k of these are the numbers of k words, which come off the front of s and leave t
abbrev pub TakesNumbers : List ℕ → ℕ → SplitWhitespace → SplitWhitespace → Type 0
TakesNumbers numbers zero s t = t ≡ s
TakesNumbers numbers (suc k) s t = (m : SplitWhitespace) × (word : Bor (List ℕ)) × TakesNumbers numbers k s m × split_whitespace_steps m (Some word) t × IsNumberOf word.now (get_or numbers k 0)

-- as many numbers are read as there is room for, or as there are words where these are fewer
pub record ReadsNumbers (room numbers : List ℕ) (s t : SplitWhitespace) : Type 0 where
  pub fit : length numbers ≤ length room
  pub taken : TakesNumbers numbers (length numbers) s t
  pub last : length numbers < length room → NoCharPasses is_not_whitespace (split_whitespace_rest t)
