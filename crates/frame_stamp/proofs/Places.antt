-- A stamp's bytes, place by place. Assumes nothing.
use mathlib.Core.Path.{◌≡◌, sym, ap, ◌∙◌}
use mathlib.Core.Bool.{Bool, true, false, ◌&&◌, ◌||◌, and_assoc, and-true, or-false}
use mathlib.Core.Logic.{◌⊎◌, inl, inr}
use mathlib.Core.List.{List, [], ◌∷◌, ◌++◌}
use Prim.Native.Nat.{ℕ, zero, suc, ◌+◌, ◌-◌, ◌≤◌}
use native.Mathlib.Omega.{arith}
use native.Mathlib.Numerals.{add-one}
use lib.ListN.{length, drop, get_or, drop_of_length-le}
use lib.Seq.{drop-cons}
use Rattle.model_text.specs.Stamp.{Pattern, matches, date, clock, fraction, has_digits, day_exists, is_stamp}
use Rattle.model_text.proofs.Form.{size_of, not_long}
use Rattle.frame_stamp.specs.Places.{slice_at}

-- ---- the bytes, one by one

-- the first k of them, and the rest
front : (k i : ℕ) (s : List ℕ) → i + k ≤ length s → slice_at s i k ++ drop (i + k) s ≡ drop i s
front zero i s h = ap (λ (n : ℕ). drop n s) (let e : i + 0 ≡ i = omega arith in e)
front (suc k) i s h =
    ap (λ (l : List ℕ). get_or s i 0 ∷ l)
    (ap (λ (n : ℕ). slice_at s (i + 1) k ++ drop n s) (let e : i + suc k ≡ i + 1 + k = omega arith in e) ∙ front k (i + 1) s (omega arith) ∙ ap (λ (n : ℕ). drop n s) (add-one i))
    ∙ sym (drop-cons s i 0 (omega arith))

-- date and clock, and what follows
parts : (s : List ℕ) (ps : List Pattern) → 17 ≤ length s → matches (date ++ clock ++ ps) s ≡ (matches date (slice_at s 0 8) && matches clock (slice_at s 8 9) && matches ps (drop 17 s))
parts s ps h =
    ap (matches (date ++ clock ++ ps)) (sym (front 17 0 s h))
    ∙ (let e : matches (date ++ clock ++ ps) (slice_at s 0 17 ++ drop 17 s) ≡ (matches date (slice_at s 0 8) && matches clock (slice_at s 8 9) && matches ps (drop 17 s)) = simp (and_assoc, and-true) in e)

-- the form by the length
module _ (s : List ℕ) where
  other : (n : ℕ) → (length s ≡ size_of (date ++ clock ++ fraction n) → ⊥) → has_digits n s ≡ false
  unfolding has_digits
  other n h = not_long (date ++ clock ++ fraction n) s h

  by_five : {a b c d e : Bool} → has_digits 0 s ≡ a → has_digits 3 s ≡ b → has_digits 6 s ≡ c → has_digits 9 s ≡ d → has_digits 12 s ≡ e → is_stamp s ≡ ((a || b || c || d || e) && day_exists s)
  unfolding is_stamp
  by_five p q r t u = λ i. (p i || q i || r i || t i || u i) && day_exists s

  -- none of the lengths
  pub says_none : (length s ≡ 17 → ⊥) → ((length s ≡ 21) ⊎ ((length s ≡ 24) ⊎ ((length s ≡ 27) ⊎ (length s ≡ 30))) → ⊥) → false ≡ is_stamp s
  says_none a b =
      sym (by_five (other 0 (λ q. a (omega arith))) (other 3 (λ q. b (inl (omega arith)))) (other 6 (λ q. b (inr (inl (omega arith))))) (other 9 (λ q. b (inr (inr (inl (omega arith))))))
      (other 12 (λ q. b (inr (inr (inr (omega arith)))))))

  abbrev form : ℕ → Bool
  form n = matches date (slice_at s 0 8) && matches clock (slice_at s 8 9) && matches (fraction n) (drop 17 s)

  has : (n : ℕ) → 17 ≤ length s → has_digits n s ≡ form n
  unfolding has_digits
  has n h = parts s (fraction n) h

  is_17 : length s ≡ 17 → is_stamp s ≡ (form 0 && day_exists s)
  is_17 h =
      by_five (has 0 (omega arith)) (other 3 (λ q. omega arith)) (other 6 (λ q. omega arith)) (other 9 (λ q. omega arith)) (other 12 (λ q. omega arith))
      ∙ simp or-false

  is_21 : length s ≡ 21 → is_stamp s ≡ (form 3 && day_exists s)
  is_21 h =
      by_five (other 0 (λ q. omega arith)) (has 3 (omega arith)) (other 6 (λ q. omega arith)) (other 9 (λ q. omega arith)) (other 12 (λ q. omega arith))
      ∙ simp or-false

  is_24 : length s ≡ 24 → is_stamp s ≡ (form 6 && day_exists s)
  is_24 h =
      by_five (other 0 (λ q. omega arith)) (other 3 (λ q. omega arith)) (has 6 (omega arith)) (other 9 (λ q. omega arith)) (other 12 (λ q. omega arith))
      ∙ simp or-false

  is_27 : length s ≡ 27 → is_stamp s ≡ (form 9 && day_exists s)
  is_27 h =
      by_five (other 0 (λ q. omega arith)) (other 3 (λ q. omega arith)) (other 6 (λ q. omega arith)) (has 9 (omega arith)) (other 12 (λ q. omega arith))
      ∙ simp or-false

  is_30 : length s ≡ 30 → is_stamp s ≡ (form 12 && day_exists s)
  is_30 h = by_five (other 0 (λ q. omega arith)) (other 3 (λ q. omega arith)) (other 6 (λ q. omega arith)) (other 9 (λ q. omega arith)) (has 12 (omega arith))

  -- what the tests of the parts give
  module _ {d c y : Bool} (ed : d ≡ matches date (slice_at s 0 8)) (ec : c ≡ matches clock (slice_at s 8 9)) (ey : y ≡ day_exists s) where
    pub says_seconds : length s ≡ 17 → (d && c && y) ≡ is_stamp s
    says_seconds h =
        (λ i. ed i && ec i && ey i)
        ∙ sym (is_17 h ∙ ap (λ t. matches date (slice_at s 0 8) && matches clock (slice_at s 8 9) && t && day_exists s) (nothing_left empty) ∙ simp and-true)
      where
        empty : drop 17 s ≡ []
        empty = let l : length s ≤ 17 = omega arith in drop_of_length-le s l

        nothing_left : drop 17 s ≡ [] → matches (fraction 0) (drop 17 s) ≡ true
        nothing_left e = ap (matches (fraction 0)) e

    module _ {f : Bool} (ef : f ≡ matches (fraction (length s - 17 - 1)) (drop 17 s)) where
      part : (n : ℕ) → length s ≡ 18 + n → is_stamp s ≡ (form n && day_exists s) → (d && c && f && y) ≡ is_stamp s
      part n h e = (λ i. ed i && ec i && ef i && ey i) ∙ sym (e ∙ ap (λ k. form k && day_exists s) (let q : n ≡ length s - 17 - 1 = omega arith in q))

      pub says_fraction : (length s ≡ 21) ⊎ ((length s ≡ 24) ⊎ ((length s ≡ 27) ⊎ (length s ≡ 30))) → (d && c && f && y) ≡ is_stamp s
      says_fraction (inl h) = part 3 h (is_21 h)
      says_fraction (inr (inl h)) = part 6 h (is_24 h)
      says_fraction (inr (inr (inl h))) = part 9 h (is_27 h)
      says_fraction (inr (inr (inr h))) = part 12 h (is_30 h)
