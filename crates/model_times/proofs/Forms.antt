-- A stamp's form as facts about its bytes, and digits as numbers. Assumes nothing.
use mathlib.Core.Path.{◌≡◌, refl, sym, ap, ◌∙◌}
use mathlib.Core.Bool.{Bool, true, ◌&&◌, false≢true}
use mathlib.Core.List.{List, [], ◌∷◌}
use Prim.Native.Nat.{ℕ, zero, suc, ◌+◌, ◌/◌, ◌%◌, ◌≤◌}
use native.Mathlib.Omega.{arith}
use borrow.Author.Tests.{le-leb, leb-true, eqb-true, eq-eqb}
use lib.Dec.{leb, eqb}
use lib.ListN.{length, get_or}
use Rattle.model_text.specs.Stamp.{Pattern, digit, pair, mark, pair_number, is_digit, is_pair, matches}
use Rattle.model_text.proofs.Formed.{and_l, and_r}

pub both : {a b : Bool} → a ≡ true → b ≡ true → (a && b) ≡ true
both e f = λ i. both_of (e i) (f i)
  where
    both_of : Bool → Bool → Bool
    both_of a b = a && b

-- ---- digits

pub record Digit (b : ℕ) : Type 0 where
  pub from : 48 ≤ b
  pub to : b ≤ 57

pub digit_is : (b : ℕ) → is_digit b ≡ true → Digit b
unfolding is_digit
digit_is b e = record { from = leb-true 48 b (and_l (leb 48 b) (leb b 57) e); to = leb-true b 57 (and_r (leb 48 b) (leb b 57) e) }

pub is_a_digit : (b : ℕ) → 48 ≤ b → b ≤ 57 → is_digit b ≡ true
unfolding is_digit
is_a_digit b g h = both (le-leb 48 b g) (le-leb b 57 h)

-- two digits of a number from lo to hi
pub record Pair (lo hi a b : ℕ) : Type 0 where
  pub high : Digit a
  pub low : Digit b
  pub least : lo ≤ pair_number a b
  pub most : pair_number a b ≤ hi

pub pair_is : (lo hi a b : ℕ) → is_pair lo hi a b ≡ true → Pair lo hi a b
unfolding is_pair
pair_is lo hi a b e =
    let n : ℕ = pair_number a b in
    let d : (is_digit a && is_digit b) ≡ true = and_l (is_digit a && is_digit b) (leb lo n && leb n hi) e in
    let r : (leb lo n && leb n hi) ≡ true = and_r (is_digit a && is_digit b) (leb lo n && leb n hi) e in
    record {
      high = digit_is a (and_l (is_digit a) (is_digit b) d);
      low = digit_is b (and_r (is_digit a) (is_digit b) d);
      least = leb-true lo n (and_l (leb lo n) (leb n hi) r);
      most = leb-true n hi (and_r (leb lo n) (leb n hi) r);
    }

pub number_of_two : (n : ℕ) → pair_number (48 + n / 10) (48 + n % 10) ≡ n
number_of_two n = omega arith

pub is_two : (lo hi n : ℕ) → lo ≤ n → n ≤ hi → n ≤ 99 → is_pair lo hi (48 + n / 10) (48 + n % 10) ≡ true
unfolding is_pair
is_two lo hi n l h m =
    let e = number_of_two n in
    both (both (is_a_digit (48 + n / 10) (omega arith) (omega arith)) (is_a_digit (48 + n % 10) (omega arith) (omega arith)))
    (both (le-leb lo (pair_number (48 + n / 10) (48 + n % 10)) (omega arith)) (le-leb (pair_number (48 + n / 10) (48 + n % 10)) hi (omega arith)))

-- ---- a form

-- what a form says of the bytes, one after the other
abbrev pub Facts : List Pattern → List ℕ → Type 0
Facts [] [] = Unit {0}
Facts [] (b ∷ l) = ⊥
Facts (digit ∷ ps) [] = ⊥
Facts (digit ∷ ps) (b ∷ l) = (is_digit b ≡ true) × Facts ps l
Facts (pair lo hi ∷ ps) [] = ⊥
Facts (pair lo hi ∷ ps) (a ∷ []) = ⊥
Facts (pair lo hi ∷ ps) (a ∷ b ∷ l) = (is_pair lo hi a b ≡ true) × Facts ps l
Facts (mark m ∷ ps) [] = ⊥
Facts (mark m ∷ ps) (b ∷ l) = (b ≡ m) × Facts ps l

pub facts : (ps : List Pattern) (s : List ℕ) → matches ps s ≡ true → Facts ps s
facts [] [] e = tt
facts [] (b ∷ l) e = absurd (false≢true e)
facts (digit ∷ ps) [] e = absurd (false≢true e)
facts (digit ∷ ps) (b ∷ l) e = (and_l (is_digit b) (matches ps l) e, facts ps l (and_r (is_digit b) (matches ps l) e))
facts (pair lo hi ∷ ps) [] e = absurd (false≢true e)
facts (pair lo hi ∷ ps) (a ∷ []) e = absurd (false≢true e)
facts (pair lo hi ∷ ps) (a ∷ b ∷ l) e = (and_l (is_pair lo hi a b) (matches ps l) e, facts ps l (and_r (is_pair lo hi a b) (matches ps l) e))
facts (mark m ∷ ps) [] e = absurd (false≢true e)
facts (mark m ∷ ps) (b ∷ l) e = (eqb-true b m (and_l (eqb b m) (matches ps l) e), facts ps l (and_r (eqb b m) (matches ps l) e))

pub fits : (ps : List Pattern) (s : List ℕ) → Facts ps s → matches ps s ≡ true
fits [] [] f = refl
fits [] (b ∷ l) f = absurd f
fits (digit ∷ ps) [] f = absurd f
fits (digit ∷ ps) (b ∷ l) f = both f.0 (fits ps l f.1)
fits (pair lo hi ∷ ps) [] f = absurd f
fits (pair lo hi ∷ ps) (a ∷ []) f = absurd f
fits (pair lo hi ∷ ps) (a ∷ b ∷ l) f = both f.0 (fits ps l f.1)
fits (mark m ∷ ps) [] f = absurd f
fits (mark m ∷ ps) (b ∷ l) f = both (eq-eqb b m f.0) (fits ps l f.1)

-- ---- a list's elements by their place

abbrev pub from_place : List ℕ → ℕ → ℕ → List ℕ
from_place s i zero = []
from_place s i (suc k) = get_or s i 0 ∷ from_place s (suc i) k

shifted : (b : ℕ) (s : List ℕ) (i k : ℕ) → from_place (b ∷ s) (suc i) k ≡ from_place s i k
shifted b s i zero = refl
shifted b s i (suc k) = ap (λ (l : List ℕ). get_or s i 0 ∷ l) (shifted b s (suc i) k)

pub by_place : (k : ℕ) (s : List ℕ) → length s ≡ k → s ≡ from_place s 0 k
by_place zero [] e = refl
by_place zero (b ∷ s) e = absurd (omega arith)
by_place (suc k) [] e = absurd (omega arith)
by_place (suc k) (b ∷ s) e = ap (λ (l : List ℕ). b ∷ l) (by_place k s (omega arith) ∙ sym (shifted b s 0 k))

pub beyond : (s : List ℕ) (i : ℕ) → length s ≤ i → get_or s i 0 ≡ 0
beyond [] i h = refl
beyond (b ∷ s) zero h = absurd (omega arith)
beyond (b ∷ s) (suc i) h = beyond s i (omega arith)
