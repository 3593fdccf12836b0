-- What a stamp's form says of its bytes. Assumes nothing.
use mathlib.Core.Path.{◌≡◌, refl, ap}
use mathlib.Core.Bool.{Bool, true, false, ◌&&◌, false≢true}
use mathlib.Core.List.{List, [], ◌∷◌}
use Prim.Native.Nat.{ℕ, zero, suc, ◌+◌, ◌-◌, ◌*◌, ◌≤◌}
use borrow.Author.Tests.{leb-true}
use lib.Dec.{leb, eqb}
use lib.ListN.{length}
use Rattle.model_text.specs.Stamp.{Pattern, digit, pair, mark, is_digit, is_pair, matches}
use Rattle.model_text.proofs.Formed.{and_l, and_r}

pub digit_bounds : (b : ℕ) → is_digit b ≡ true → (48 ≤ b) × (b ≤ 57)
unfolding is_digit
digit_bounds b e = (leb-true 48 b (and_l (leb 48 b) (leb b 57) e), leb-true b 57 (and_r (leb 48 b) (leb b 57) e))

pub pair_digits : (lo hi a b : ℕ) → is_pair lo hi a b ≡ true → (is_digit a ≡ true) × (is_digit b ≡ true)
unfolding is_pair
pair_digits lo hi a b e =
    let t : Bool = leb lo ((a - 48) * 10 + (b - 48)) && leb ((a - 48) * 10 + (b - 48)) hi in
    let d : (is_digit a && is_digit b) ≡ true = and_l (is_digit a && is_digit b) t e in
    (and_l (is_digit a) (is_digit b) d, and_r (is_digit a) (is_digit b) d)

-- how many bytes the parts have
abbrev pub size_of : List Pattern → ℕ
size_of [] = zero
size_of (digit ∷ ps) = suc (size_of ps)
size_of (pair lo hi ∷ ps) = suc (suc (size_of ps))
size_of (mark m ∷ ps) = suc (size_of ps)

pub fits_length : (ps : List Pattern) (s : List ℕ) → matches ps s ≡ true → length s ≡ size_of ps
fits_length [] [] e = refl
fits_length [] (b ∷ l) e = absurd (false≢true e)
fits_length (digit ∷ ps) [] e = absurd (false≢true e)
fits_length (digit ∷ ps) (b ∷ l) e = ap suc (fits_length ps l (and_r (is_digit b) (matches ps l) e))
fits_length (pair lo hi ∷ ps) [] e = absurd (false≢true e)
fits_length (pair lo hi ∷ ps) (a ∷ []) e = absurd (false≢true e)
fits_length (pair lo hi ∷ ps) (a ∷ b ∷ l) e = ap (λ (n : ℕ). suc (suc n)) (fits_length ps l (and_r (is_pair lo hi a b) (matches ps l) e))
fits_length (mark m ∷ ps) [] e = absurd (false≢true e)
fits_length (mark m ∷ ps) (b ∷ l) e = ap suc (fits_length ps l (and_r (eqb b m) (matches ps l) e))

pub not_long : (ps : List Pattern) (s : List ℕ) → (length s ≡ size_of ps → ⊥) → matches ps s ≡ false
not_long ps s h = go (matches ps s) refl
  where
    go : (t : Bool) → matches ps s ≡ t → matches ps s ≡ false
    go true e = absurd (h (fits_length ps s e))
    go false e = e
