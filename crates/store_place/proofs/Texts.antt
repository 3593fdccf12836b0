-- Texts that count only if they are valid. Assumes nothing.
use mathlib.Core.Path.{◌≡◌, refl, sym, ap, ◌∙◌}
use mathlib.Core.Bool.{Bool, true, false, cond}
use mathlib.Core.List.{List, [], ◌∷◌}
use Prim.Native.Nat.{ℕ, zero, suc, ◌+◌, ◌-◌, ◌≤◌, min}
use native.Mathlib.Omega.{arith}
use lib.ListN.{length, take, drop, length-take}
use Rattle.store_place.specs.Place.{field}

abbrev pub or_none : Bool → List ℕ → List ℕ
or_none t l = cond t l []

pub field_is : (b : List ℕ) (at size n k : ℕ) → k ≡ min n size → take (at + k - at) (drop at b) ≡ field b at size n
unfolding field
field_is b at size n k ek =
    let e : at + k - at ≡ min n size = omega arith in
    ap (λ (j : ℕ). take j (drop at b)) e

take_taken : (k : ℕ) (l : List ℕ) → take (length (take k l)) l ≡ take k l
take_taken zero l = refl
take_taken (suc k) [] = refl
take_taken (suc k) (x ∷ l) = ap (λ (t : List ℕ). x ∷ t) (take_taken k l)

-- what a field holds stands where the field is
pub field_stands : (b : List ℕ) (at size n : ℕ) (x : List ℕ) → x ≡ field b at size n → take (length x) (drop at b) ≡ x
unfolding field
field_stands b at size n x e = ap (λ (l : List ℕ). take (length l) (drop at b)) e ∙ take_taken (min n size) (drop at b) ∙ sym e

pub field_length : (b : List ℕ) (at size n : ℕ) (x : List ℕ) → x ≡ field b at size n → length x ≤ size
unfolding field
field_length b at size n x e =
    let long : length x ≡ length (take (min n size) (drop at b)) = ap length e in
    omega (arith, long, length-take (min n size) (drop at b))

-- and is no longer than its stored length
pub field_most : (b : List ℕ) (at size n : ℕ) → length (field b at size n) ≤ n
unfolding field
field_most b at size n = omega (arith, length-take (min n size) (drop at b))

module _ (valid : List ℕ → Bool) (b : List ℕ) (at size n : ℕ) (x : List ℕ) (t : Bool) (ex : x ≡ field b at size n) (et : t ≡ valid x) where
  judged : t ≡ valid (field b at size n)
  judged = et ∙ ap valid ex

  pub valid_text : t ≡ true → x ≡ or_none (valid (field b at size n)) (field b at size n)
  valid_text h = ex ∙ sym (ap (λ (v : Bool). or_none v (field b at size n)) (sym judged ∙ h))

  pub no_text : t ≡ false → [] ≡ or_none (valid (field b at size n)) (field b at size n)
  no_text h = sym (ap (λ (v : Bool). or_none v (field b at size n)) (sym judged ∙ h))
