-- What one walk over a row, from the last record to the first, has found of the records from i on. Assumes nothing.
use mathlib.Core.Path.{◌≡◌, refl, sym, ◌∙◌, ap, subst}
use mathlib.Core.Bool.{Bool, true, false, cond, not, ◌&&◌}
use Prim.Native.Nat.{ℕ, zero, suc, ◌+◌, ◌%◌, ◌<◌, ◌≤◌}
use native.Mathlib.Omega.{arith}
use native.Mathlib.Numerals.{add-one}
use mathlib.Core.List.{List, [], ◌∷◌}
use Rattle.std.specs.List.{list_any}
use lib.Bits.{bit_or}
use lib.Dec.{eqb}
use lib.ListN.{length, get_or, set, drop}
use Rattle.std.proofs.Common.{drop-cons}
use Rattle.standby_row.specs.declared.Bound.{Bound}
use Rattle.standby_row.specs.Row.{free_record, is_used, is_of, is_free, breaks_of, clashes, zero_or_next, first_of, apart_of}
use Rattle.standby_row.specs.Spots.{spread_of, SpotsIn}
use Rattle.standby_row.proofs.Apart.{at, Met, none_met, met_free, met_used, apart_used, apart_free}

-- ---- the first record from i on of which p holds stands at n, or n is the length

abbrev pub First : (Bound → Bool) → List Bound → ℕ → ℕ → Type 0
First p xs i n = n ≡ i + first_of p (drop i xs)

first_next : (p : Bound → Bool) (xs : List Bound) (i : ℕ) → i < length xs → first_of p (drop i xs) ≡ zero_or_next (p (at xs i)) (first_of p (drop (i + 1) xs))
first_next p xs i l = ap (first_of p) (drop-cons xs i free_record l) ∙ ap (λ (n : ℕ). zero_or_next (p (at xs i)) (first_of p (drop n xs))) (sym (add-one i))

first_turn : (p : Bound → Bool) (xs : List Bound) (i : ℕ) → i < length xs → {n : ℕ} (t : Bool) → p (at xs i) ≡ t → First p xs (i + 1) n → First p xs i (cond t i n)
first_turn p xs i l true e f =
    let here : first_of p (drop i xs) ≡ 0 = first_next p xs i l ∙ ap (λ (b : Bool). zero_or_next b (first_of p (drop (i + 1) xs))) e in
    omega arith
first_turn p xs i l false e f =
    let past : first_of p (drop i xs) ≡ suc (first_of p (drop (i + 1) xs)) = first_next p xs i l ∙ ap (λ (b : Bool). zero_or_next b (first_of p (drop (i + 1) xs))) e in
    omega (arith, f)

first_end : (p : Bound → Bool) (xs : List Bound) (n : ℕ) → n ≡ length xs → First p xs n n
first_end p xs n e = go xs n e
  where
    none : (ys : List Bound) (m : ℕ) → m ≡ length ys → first_of p (drop m ys) ≡ 0
    none [] zero f = refl
    none [] (suc m) f = refl
    none (y ∷ ys) zero f = absurd (omega arith)
    none (y ∷ ys) (suc m) f = none ys m (omega arith)

    go : (ys : List Bound) (m : ℕ) → m ≡ length ys → m ≡ m + first_of p (drop m ys)
    go ys m f =
        let z : first_of p (drop m ys) ≡ 0 = none ys m f in
        omega arith

apart_end : (xs : List Bound) (n : ℕ) → n ≡ length xs → apart_of (drop n xs) ≡ true
apart_end [] zero e = refl
apart_end [] (suc n) e = refl
apart_end (x ∷ xs) zero e = absurd (omega arith)
apart_end (x ∷ xs) (suc n) e = apart_end xs n (omega arith)

-- ---- the walk, with n cells for places and as many for handles

pub record Walked (xs : List Bound) (k places room n i : ℕ) (places_met handles_met : List ℕ) (own free broken : ℕ) (apart : Bool) : Type 0 where
  pub inside : i ≤ length xs
  pub own_is : First (λ h. is_of h k) xs i own
  pub free_is : First is_free xs i free
  pub broken_is : First (λ h. breaks_of h places room) xs i broken
  pub cells : Met xs n i places_met handles_met
  pub apart_is : apart ≡ apart_of (drop i xs)

pub start : (xs : List Bound) (k places room n m : ℕ) (places_met handles_met : List ℕ) → length places_met ≡ n → length handles_met ≡ n → m ≡ length xs
    → Walked xs k places room n m places_met handles_met m m m true
start xs k places room n m places_met handles_met a b e = record {
  inside = omega arith;
  own_is = first_end (λ h. is_of h k) xs m e;
  free_is = first_end is_free xs m e;
  broken_is = first_end (λ h. breaks_of h places room) xs m e;
  cells = none_met xs n m places_met handles_met a b e;
  apart_is = sym (apart_end xs m e);
}

module _ {xs : List Bound} {k places room n m : ℕ} {places_met handles_met : List ℕ} {own free broken : ℕ} {apart : Bool} (i : ℕ) (next : m ≡ i + 1) (walked : Walked xs k places room n m places_met handles_met own free broken apart) where
  w : Walked xs k places room n (i + 1) places_met handles_met own free broken apart
  w = subst (λ (j : ℕ). Walked xs k places room n j places_met handles_met own free broken apart) next walked

  here : i < length xs
  here = omega (arith, w.inside)

  pub past_free : is_used (at xs i) ≡ false → Walked xs k places room n i places_met handles_met own i broken apart
  past_free e = record {
    inside = omega (arith, w.inside);
    own_is = first_turn (λ h. is_of h k) xs i here false (λ j. e j && eqb (at xs i).handle k) w.own_is;
    free_is = first_turn is_free xs i here true (ap not e) w.free_is;
    broken_is = first_turn (λ h. breaks_of h places room) xs i here false (ap (λ (u : Bool). u && breaks_used) e) w.broken_is;
    cells = met_free i w.cells e;
    apart_is = w.apart_is ∙ apart_free xs i here e;
  }
    where
      breaks_used : Bool
      breaks_used = breaks_of (record { used = 1; handle = (at xs i).handle; place = (at xs i).place; commit_no = (at xs i).commit_no; held_len = (at xs i).held_len; held_bytes = (at xs i).held_bytes }) places room

  pub past_used : 0 < n → is_used (at xs i) ≡ true
      → Walked xs k places room n i (set places_met ((at xs i).place % n) 1) (set handles_met (spread_of (at xs i).handle % n) 1)
      (cond (eqb (at xs i).handle k) i own) free (cond (breaks_of (at xs i) places room) i broken)
      (not (not (eqb (bit_or (get_or places_met ((at xs i).place % n) 0) (get_or handles_met (spread_of (at xs i).handle % n) 0)) 0) && list_any (clashes (at xs i)) (drop (i + 1) xs)) && apart)
  past_used some u = record {
    inside = omega (arith, w.inside);
    own_is = first_turn (λ h. is_of h k) xs i here (eqb (at xs i).handle k) (λ j. u j && eqb (at xs i).handle k) w.own_is;
    free_is = first_turn is_free xs i here false (ap not u) w.free_is;
    broken_is = first_turn (λ h. breaks_of h places room) xs i here (breaks_of (at xs i) places room) refl w.broken_is;
    cells = met_used i w.cells some;
    apart_is = apart_used i w.cells here w.apart_is;
  }

pub over : {xs : List Bound} {k places room n i : ℕ} {places_met handles_met : List ℕ} {own free broken : ℕ} {apart : Bool} → Walked xs k places room n i places_met handles_met own free broken apart → i ≡ 0
    → SpotsIn xs k places room (record { own = own; free = free; broken = broken; apart = apart })
over {xs} {k} {places} {room} {i = i} {own = own} {free} {broken} w all = record {
  own = at_start (λ h. is_of h k) own w.own_is;
  free = at_start is_free free w.free_is;
  broken = at_start (λ h. breaks_of h places room) broken w.broken_is;
  apart = w.apart_is ∙ ap (λ (n : ℕ). apart_of (drop n xs)) all;
}
  where
    at_start : (t : Bound → Bool) (n : ℕ) → First t xs i n → n ≡ first_of t xs
    at_start t n f =
        let whole : n ≡ 0 + first_of t xs = f ∙ ap (λ (j : ℕ). j + first_of t (drop j xs)) all in
        omega arith
