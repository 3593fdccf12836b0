-- Whether the records of a row are apart, from the last to the first. Assumes nothing.
use mathlib.Core.Path.{◌≡◌, refl, sym, ◌∙◌, ap, subst}
use mathlib.Core.Bool.{Bool, true, false, not, ◌&&◌, ◌||◌, true≢false}
use Prim.Native.Nat.{ℕ, zero, suc, ◌+◌, ◌%◌, ◌<◌, ◌≤◌}
use native.Mathlib.Omega.{arith}
use native.Mathlib.Numerals.{add-one}
use mathlib.Core.List.{List, [], ◌∷◌}
use Rattle.std.specs.List.{list_any}
use lib.Bits.{bit_or}
use lib.Dec.{eqb}
use lib.ListN.{length, get_or, set, drop, length-set}
use borrow.Author.Tests.{eqb-true, eqb-false}
use Rattle.std.proofs.Common.{◌≢◌, drop-cons, get_or-set_same, get_or-set_other}
use Rattle.std.proofs.lemmas.Grind.{get_or-set_at}
use Rattle.std.proofs.lemmas.Nat.{le_or_l, le_or_r}
use Rattle.standby_row.specs.declared.Bound.{Bound}
use Rattle.standby_row.specs.Row.{free_record, is_used, clashes, apart_of}
use Rattle.standby_row.specs.Spots.{spread_of}

-- the record j, or a free one
abbrev pub at : List Bound → ℕ → Bound
at xs j = get_or xs j free_record

-- what can't be true is false
pub never : (b : Bool) → (b ≡ true → ⊥) → b ≡ false
never true h = absurd (h refl)
never false h = refl

-- what holds from i + 1 on, and of i, holds from i on
pub and_on : (P : ℕ → Type 0) (i : ℕ) → ((j : ℕ) → i + 1 ≤ j → P j) → P i → (j : ℕ) → i ≤ j → P j
and_on P i more here j l = go (eqb j i) refl
  where
    go : (t : Bool) → eqb j i ≡ t → P j
    go true t = subst P (sym (eqb-true j i t)) here
    go false t =
        let other : j ≢ i = eqb-false j i t in
        more j (omega arith)

-- no record from i on passes a test
any_none : (p : Bound → Bool) (xs : List Bound) (i : ℕ) → ((j : ℕ) → i ≤ j → j < length xs → p (at xs j) ≡ false) → list_any p (drop i xs) ≡ false
any_none p [] zero h = refl
any_none p [] (suc i) h = refl
any_none p (x ∷ xs) zero h = ap (λ (b : Bool). b || list_any p xs) (h 0 (omega arith) (omega arith)) ∙ any_none p xs zero (λ j l m. h (suc j) (omega arith) (omega arith))
any_none p (x ∷ xs) (suc i) h = any_none p xs i (λ j l m. h (suc j) (omega arith) (omega arith))

-- ---- one record more
--     apart_next    it clashes with one behind it or not.        apart_free    it is not used

apart_next : (xs : List Bound) (i : ℕ) → i < length xs → apart_of (drop i xs) ≡ (not (list_any (clashes (at xs i)) (drop (i + 1) xs)) && apart_of (drop (i + 1) xs))
apart_next xs i l = ap apart_of (drop-cons xs i free_record l) ∙ ap (λ (n : ℕ). not (list_any (clashes (at xs i)) (drop n xs)) && apart_of (drop n xs)) (sym (add-one i))

unused : (g : Bound) (xs : List Bound) → is_used g ≡ false → list_any (clashes g) xs ≡ false
unused g [] e = refl
unused g (x ∷ xs) e = ap (λ (u : Bool). (u && (is_used x && (eqb g.handle x.handle || eqb g.place x.place))) || list_any (clashes g) xs) e ∙ unused g xs e

pub apart_free : (xs : List Bound) (i : ℕ) → i < length xs → is_used (at xs i) ≡ false → apart_of (drop (i + 1) xs) ≡ apart_of (drop i xs)
apart_free xs i l e = sym (apart_next xs i l ∙ ap (λ (b : Bool). not b && apart_of (drop (i + 1) xs)) (unused (at xs i) (drop (i + 1) xs) e))

-- two that are used and have different handles and different places don't clash
no_clash : (g h : Bound) → (is_used h ≡ true → g.handle ≡ h.handle → ⊥) → (is_used h ≡ true → g.place ≡ h.place → ⊥) → clashes g h ≡ false
no_clash g h p q = go (is_used g) (is_used h) (eqb g.handle h.handle) (eqb g.place h.place) (λ v e. p v (eqb-true g.handle h.handle e)) (λ v e. q v (eqb-true g.place h.place e))
  where
    go : (u v a b : Bool) → (v ≡ true → a ≡ true → ⊥) → (v ≡ true → b ≡ true → ⊥) → (u && (v && (a || b))) ≡ false
    go false v a b p q = refl
    go true false a b p q = refl
    go true true true b p q = absurd (p refl refl)
    go true true false true p q = absurd (q refl refl)
    go true true false false p q = refl

-- ---- the cells of the places and handles that were met: n of each, by the remainders of places and of handles' numbers

pub record Met (xs : List Bound) (n i : ℕ) (places handles : List ℕ) : Type 0 where
  pub cells : (length places ≡ n) × (length handles ≡ n)
  pub met : (j : ℕ) → i ≤ j → j < length xs → is_used (at xs j) ≡ true → (get_or places ((at xs j).place % n) 0 ≡ 1) × (get_or handles (spread_of (at xs j).handle % n) 0 ≡ 1)

pub none_met : (xs : List Bound) (n i : ℕ) (places handles : List ℕ) → length places ≡ n → length handles ≡ n → i ≡ length xs → Met xs n i places handles
none_met xs n i places handles a b e = record { cells = (a, b); met = λ j l m u. absurd (omega arith) }

-- a cell that was met stays so
stays : (cells : List ℕ) (i j : ℕ) → i < length cells → get_or cells j 0 ≡ 1 → get_or (set cells i 1) j 0 ≡ 1
stays cells i j l e = go (eqb j i) refl
  where
    go : (t : Bool) → eqb j i ≡ t → get_or (set cells i 1) j 0 ≡ 1
    go true t = get_or-set_at cells i j 1 0 (eqb-true j i t) l
    go false t = get_or-set_other cells i j 1 0 (eqb-false j i t) ∙ e

-- ---- a turn: the records from i on, after those from i + 1 on

pub met_free : {xs : List Bound} {n : ℕ} {places handles : List ℕ} (i : ℕ) → Met xs n (i + 1) places handles → is_used (at xs i) ≡ false → Met xs n i places handles
met_free {xs} i w e = record { cells = w.cells; met = and_on _ i w.met (λ m u. absurd (true≢false (sym u ∙ e))) }

module _ {xs : List Bound} {n : ℕ} {places handles : List ℕ} (i : ℕ) (w : Met xs n (i + 1) places handles) where
  abbrev place : ℕ
  place = (at xs i).place % n

  abbrev number : ℕ
  number = spread_of (at xs i).handle % n

  -- a record whose cells were not met clashes with none behind it
  new_here : bit_or (get_or places place 0) (get_or handles number 0) ≡ 0 → list_any (clashes (at xs i)) (drop (i + 1) xs) ≡ false
  new_here none = any_none (clashes (at xs i)) xs (i + 1) (λ j l m. no_clash (at xs i) (at xs j) (λ u e. by_handle j l m u e) (λ u e. by_place j l m u e))
    where
      x : ℕ
      x = get_or places place 0

      y : ℕ
      y = get_or handles number 0

      by_handle : (j : ℕ) → i + 1 ≤ j → j < length xs → is_used (at xs j) ≡ true → (at xs i).handle ≡ (at xs j).handle → ⊥
      by_handle j l m u e =
          let one : get_or handles (spread_of (at xs j).handle % n) 0 ≡ 1 = (w.met j l m u).1 in
          let same : y ≡ get_or handles (spread_of (at xs j).handle % n) 0 = ap (λ (k : ℕ). get_or handles (spread_of k % n) 0) e in
          omega (arith, le_or_r x y)

      by_place : (j : ℕ) → i + 1 ≤ j → j < length xs → is_used (at xs j) ≡ true → (at xs i).place ≡ (at xs j).place → ⊥
      by_place j l m u e =
          let one : get_or places ((at xs j).place % n) 0 ≡ 1 = (w.met j l m u).0 in
          let same : x ≡ get_or places ((at xs j).place % n) 0 = ap (λ (k : ℕ). get_or places (k % n) 0) e in
          omega (arith, le_or_l x y)

  pub met_used : 0 < n → Met xs n i (set places place 1) (set handles number 1)
  met_used some = record {
    cells = (length-set places place 1 ∙ w.cells.0, length-set handles number 1 ∙ w.cells.1);
    met = and_on _ i (λ j l m u. (stays places place ((at xs j).place % n) place_in (w.met j l m u).0, stays handles number (spread_of (at xs j).handle % n) number_in (w.met j l m u).1))
        (λ m u. (get_or-set_same places place 1 0 place_in, get_or-set_same handles number 1 0 number_in));
  }
    where
      place_in : place < length places
      place_in = omega (arith, w.cells.0, some)

      number_in : number < length handles
      number_in = omega (arith, w.cells.1, some)

  -- it is held against those behind it only where a cell was met
  pub apart_used : i < length xs → {a : Bool} → a ≡ apart_of (drop (i + 1) xs)
      → (not (not (eqb (bit_or (get_or places place 0) (get_or handles number 0)) 0) && list_any (clashes (at xs i)) (drop (i + 1) xs)) && a) ≡ apart_of (drop i xs)
  apart_used l {a} e =
      go a (eqb met 0) any (λ t. new_here (eqb-true met 0 t)) ∙ ap (λ (b : Bool). not any && b) e ∙ sym (apart_next xs i l)
    where
      met : ℕ
      met = bit_or (get_or places place 0) (get_or handles number 0)

      any : Bool
      any = list_any (clashes (at xs i)) (drop (i + 1) xs)

      go : (b t c : Bool) → (t ≡ true → c ≡ false) → (not (not t && c) && b) ≡ (not c && b)
      go b true true h = absurd (true≢false (h refl))
      go b true false h = refl
      go b false c h = refl
