-- A stamp of the widest rule by its bytes: it says a time, and is the front of that time's text. Assumes nothing.
use mathlib.Core.Path.{◌≡◌, refl, sym, ap, ◌∙◌}
use mathlib.Core.Bool.{Bool, true, false, ◌||◌}
use mathlib.Core.Logic.{◌⊎◌, inl, inr}
use mathlib.Core.List.{List, [], ◌∷◌, ◌++◌}
use Prim.Native.Nat.{ℕ, ◌+◌, ◌-◌, ◌*◌, ◌/◌, ◌%◌, ◌≤◌}
use native.Mathlib.Omega.{arith}
use borrow.Author.Tests.{leb-true}
use lib.ListN.{length, get_or}
use Rattle.model_text.specs.Calendar.{month_days}
use Rattle.model_text.specs.Stamp.{Pattern, pair_number, is_digit, matches, date, clock, year_of, month_of, day_of, day_exists, fraction, has_digits, is_stamp}
use Rattle.model_text.proofs.Formed.{and_l, and_r}
use Rattle.model_text.proofs.Form.{fits_length}
use Rattle.model_times.specs.Times.{two, three}
use Rattle.model_times.proofs.Forms.{Digit, digit_is, Pair, pair_is, Facts, facts, from_place, by_place}

-- ---- digits as a number, and back

high : {a b : ℕ} → Digit a → Digit b → 48 + pair_number a b / 10 ≡ a
high d e = omega (arith, d.from, d.to, e.from, e.to)

low : {a b : ℕ} → Digit a → Digit b → 48 + pair_number a b % 10 ≡ b
low d e = omega (arith, d.from, d.to, e.from, e.to)

pub two_most : {a b : ℕ} → Digit a → Digit b → pair_number a b ≤ 99
two_most d e = omega (arith, d.from, d.to, e.from, e.to)

abbrev number_three : ℕ → ℕ → ℕ → ℕ
number_three a b c = (a - 48) * 100 + pair_number b c

-- three digits
pub record Three (a b c : ℕ) : Type 0 where
  pub one : Digit a
  pub two : Digit b
  pub three : Digit c

module _ {a b c : ℕ} (d : Three a b c) where
  pub three_most : number_three a b c ≤ 999
  three_most = let m = two_most d.two d.three in omega (arith, d.one.from, d.one.to)

  first : 48 + number_three a b c / 100 ≡ a
  first = let m = two_most d.two d.three in omega (arith, d.one.from, d.one.to)

  rest : number_three a b c % 100 ≡ pair_number b c
  rest = let m = two_most d.two d.three in omega (arith, d.one.from, d.one.to)

  middle : 48 + number_three a b c % 100 / 10 ≡ b
  middle = ap (λ (n : ℕ). 48 + n / 10) rest ∙ high d.two d.three

  end : 48 + number_three a b c % 100 % 10 ≡ c
  end = ap (λ (n : ℕ). 48 + n % 10) rest ∙ low d.two d.three

  pub three_back : three (number_three a b c) ≡ a ∷ b ∷ c ∷ []
  three_back = λ i. first i ∷ middle i ∷ end i ∷ []

pub two_back : {a b : ℕ} → Digit a → Digit b → two (pair_number a b) ≡ a ∷ b ∷ []
two_back d e = λ i. high d e i ∷ low d e i ∷ []

-- ---- what a stamp says

-- date and clock of a stamp
pub record Dated (s : List ℕ) : Type 0 where
  pub y0 : Digit (get_or s 0 0)
  pub y1 : Digit (get_or s 1 0)
  pub y2 : Digit (get_or s 2 0)
  pub y3 : Digit (get_or s 3 0)
  pub month : Pair 1 12 (get_or s 4 0) (get_or s 5 0)
  pub day : Pair 1 31 (get_or s 6 0) (get_or s 7 0)
  pub dash : get_or s 8 0 ≡ 45
  pub hour : Pair 0 23 (get_or s 9 0) (get_or s 10 0)
  pub colon : get_or s 11 0 ≡ 58
  pub minute : Pair 0 59 (get_or s 12 0) (get_or s 13 0)
  pub colons : get_or s 14 0 ≡ 58
  pub second : Pair 0 60 (get_or s 15 0) (get_or s 16 0)

dated : (s : List ℕ) (ps : List Pattern) (l : List ℕ) → Facts (date ++ clock ++ ps) (from_place s 0 17 ++ l) → Dated s × Facts ps l
dated s ps l (a, (b, (c, (d, (e, (f, (g, (h, (i, (j, (k, (m, r)))))))))))) = (
  record {
    y0 = digit_is _ a;
    y1 = digit_is _ b;
    y2 = digit_is _ c;
    y3 = digit_is _ d;
    month = pair_is _ _ _ _ e;
    day = pair_is _ _ _ _ f;
    dash = g;
    hour = pair_is _ _ _ _ h;
    colon = i;
    minute = pair_is _ _ _ _ j;
    colons = k;
    second = pair_is _ _ _ _ m;
  },
  r,
)

-- a group of three digits
pub record Group (s : List ℕ) (i : ℕ) : Type 0 where
  pub of : Three (get_or s i 0) (get_or s (i + 1) 0) (get_or s (i + 1 + 1) 0)

pub data Groups (s : List ℕ) : Type 0 where
  none_of : length s ≡ 17 → Groups s
  one_of : length s ≡ 21 → get_or s 17 0 ≡ 46 → Group s 18 → Groups s
  two_of : length s ≡ 24 → get_or s 17 0 ≡ 46 → Group s 18 → Group s 21 → Groups s
  three_of : length s ≡ 27 → get_or s 17 0 ≡ 46 → Group s 18 → Group s 21 → Group s 24 → Groups s
  four_of : length s ≡ 30 → get_or s 17 0 ≡ 46 → Group s 18 → Group s 21 → Group s 24 → Group s 27 → Groups s

pub record Stamp (s : List ℕ) : Type 0 where
  pub front : Dated s
  pub groups : Groups s
  pub exists : day_of s ≤ month_days (year_of s) (month_of s)

group : (s : List ℕ) (i : ℕ) → is_digit (get_or s i 0) ≡ true → is_digit (get_or s (i + 1) 0) ≡ true → is_digit (get_or s (i + 1 + 1) 0) ≡ true → Group s i
group s i a b c = record { of = record { one = digit_is _ a; two = digit_is _ b; three = digit_is _ c } }

-- by its form
module _ (s : List ℕ) where
  abbrev Front : Type 0
  Front = Dated s × Groups s

  front_0 : has_digits 0 s ≡ true → Front
  unfolding has_digits
  front_0 e =
      let n = fits_length (date ++ clock ++ fraction 0) s e in
      let f = facts (date ++ clock ++ fraction 0) (from_place s 0 17) (ap (matches (date ++ clock ++ fraction 0)) (sym (by_place 17 s n)) ∙ e) in
      let d = dated s [] [] f in
      (d.0, none_of n)

  front_3 : has_digits 3 s ≡ true → Front
  unfolding has_digits
  front_3 e =
      let n = fits_length (date ++ clock ++ fraction 3) s e in
      let f = facts (date ++ clock ++ fraction 3) (from_place s 0 21) (ap (matches (date ++ clock ++ fraction 3)) (sym (by_place 21 s n)) ∙ e) in
      let d = dated s (fraction 3) (from_place s 17 4) f in
      (d.0, one_of n d.1.0 (group s 18 d.1.1.0 d.1.1.1.0 d.1.1.1.1.0))

  front_6 : has_digits 6 s ≡ true → Front
  unfolding has_digits
  front_6 e =
      let n = fits_length (date ++ clock ++ fraction 6) s e in
      let f = facts (date ++ clock ++ fraction 6) (from_place s 0 24) (ap (matches (date ++ clock ++ fraction 6)) (sym (by_place 24 s n)) ∙ e) in
      let d = dated s (fraction 6) (from_place s 17 7) f in
      let g = d.1.1 in
      let h = g.1.1.1 in
      (d.0, two_of n d.1.0 (group s 18 g.0 g.1.0 g.1.1.0) (group s 21 h.0 h.1.0 h.1.1.0))

  front_9 : has_digits 9 s ≡ true → Front
  unfolding has_digits
  front_9 e =
      let n = fits_length (date ++ clock ++ fraction 9) s e in
      let f = facts (date ++ clock ++ fraction 9) (from_place s 0 27) (ap (matches (date ++ clock ++ fraction 9)) (sym (by_place 27 s n)) ∙ e) in
      let d = dated s (fraction 9) (from_place s 17 10) f in
      let g = d.1.1 in
      let h = g.1.1.1 in
      let i = h.1.1.1 in
      (d.0, three_of n d.1.0 (group s 18 g.0 g.1.0 g.1.1.0) (group s 21 h.0 h.1.0 h.1.1.0) (group s 24 i.0 i.1.0 i.1.1.0))

  front_12 : has_digits 12 s ≡ true → Front
  unfolding has_digits
  front_12 e =
      let n = fits_length (date ++ clock ++ fraction 12) s e in
      let f = facts (date ++ clock ++ fraction 12) (from_place s 0 30) (ap (matches (date ++ clock ++ fraction 12)) (sym (by_place 30 s n)) ∙ e) in
      let d = dated s (fraction 12) (from_place s 17 13) f in
      let g = d.1.1 in
      let h = g.1.1.1 in
      let i = h.1.1.1 in
      let j = i.1.1.1 in
      (d.0, four_of n d.1.0 (group s 18 g.0 g.1.0 g.1.1.0) (group s 21 h.0 h.1.0 h.1.1.0) (group s 24 i.0 i.1.0 i.1.1.0) (group s 27 j.0 j.1.0 j.1.1.0))

either : (a b : Bool) → (a || b) ≡ true → (a ≡ true) ⊎ (b ≡ true)
either true b e = inl refl
either false b e = inr e

pub stamp_of_bytes : (s : List ℕ) → is_stamp s ≡ true → Stamp s
unfolding is_stamp day_exists
stamp_of_bytes s e =
    let f₃ : Bool = has_digits 0 s || has_digits 3 s in
    let f₆ : Bool = f₃ || has_digits 6 s in
    let f₉ : Bool = f₆ || has_digits 9 s in
    let f : Bool = f₉ || has_digits 12 s in
    let d : Front s = by_form (and_l f (day_exists s) e) in
    record { front = d.0; groups = d.1; exists = leb-true (day_of s) (month_days (year_of s) (month_of s)) (and_r f (day_exists s) e) }
  where
    by_form : (has_digits 0 s || has_digits 3 s || has_digits 6 s || has_digits 9 s || has_digits 12 s) ≡ true → Front s
    by_form e =
        elim (either (has_digits 0 s || has_digits 3 s || has_digits 6 s || has_digits 9 s) (has_digits 12 s) e) [
          | inr q ↦ front_12 s q
          | inl q ↦ elim (either (has_digits 0 s || has_digits 3 s || has_digits 6 s) (has_digits 9 s) q) [
            | inr q ↦ front_9 s q
            | inl q ↦ elim (either (has_digits 0 s || has_digits 3 s) (has_digits 6 s) q) [
              | inr q ↦ front_6 s q
              | inl q ↦ elim (either (has_digits 0 s) (has_digits 3 s) q) [
                | inr q ↦ front_3 s q
                | inl q ↦ front_0 s q
              ]
            ]
          ]
        ]
