-- Whether a key's number is reached, and the loops over the places. Assumes nothing.
use mathlib.Core.Path.{◌≡◌, refl, sym, ap, ◌∙◌}
use mathlib.Core.Bool.{Bool, true, false, cond, ◌&&◌, ◌||◌, true≢false}
use mathlib.Core.List.{List, [], ◌∷◌}
use mathlib.Core.Option.{some}
use Prim.Native.Nat.{ℕ, zero, suc, ◌+◌, ◌<◌, ◌≤◌, max}
use native.Mathlib.Omega.{arith}
use native.Mathlib.Numerals.{add-one}
use lib.ListN.{get_or, get_elem?}
use lib.Dec.{leb}
use borrow.Author.Tests.{leb-true, leb-false, le-leb, lt-leb}
use Rattle.std.specs.List.{list_any, list_all, range_with_len}
use Rattle.std.proofs.lemmas.Bool.{and_parts}
use Rattle.model_frame.specs.Frame.{Key}
use Rattle.model_standby.specs.Store.{Place, same_key}
use Rattle.model_standby.proofs.Places.{key_sound}
use Rattle.store_place.specs.Place.{next_out_of, session_of, place_in}
use Rattle.store_areas.specs.declared.Shape.{Shape}
use Rattle.store_areas.specs.Areas.{place_at, places_of, count_up}
use Rattle.store_areas.proofs.Lifting.{place_is}
use Rattle.model_choice.specs.Choice.{next_of, is_ahead}
use Rattle.model_choice.proofs.Keys.{counted, Numbered, at_least_1 as next_at_least_1}
use Rattle.standby_ahead.specs.Ahead.{has_number}

-- ---- every store's numbers are at least 1

at_least_1 : (s : Shape) (w b : List ℕ) (j : ℕ) → 1 ≤ (place_at s w b j).stored.session.next_out
unfolding place_at place_in session_of next_out_of
at_least_1 s w b j = omega arith

each_at_least_1 : (s : Shape) (w b : List ℕ) (n k i : ℕ) (p : Place) → get_elem? (count_up (place_at s w b) k n) i ≡ some p → 1 ≤ p.stored.session.next_out
each_at_least_1 s w b zero k i p e = let z : ◌≡◌ {A = ℕ} 0 1 = cc in omega arith
each_at_least_1 s w b (suc n) k zero p e =
    let same : place_at s w b k ≡ p = cc in
    omega (arith, at_least_1 s w b k, ap (λ (x : Place). x.stored.session.next_out) same)
each_at_least_1 s w b (suc n) k (suc i) p e = each_at_least_1 s w b n (suc k) i p e

pub numbered : (s : Shape) (w b : List ℕ) → Numbered (places_of s w b)
unfolding places_of
numbered s w b i p e = each_at_least_1 s w b (get_or w 0 0) 0 i p e

-- ---- one place

pub high_enough : (k : Key) (n m : ℕ) (p : Place) {t : Bool} → m ≡ p.stored.session.next_out → n ≤ m → t ≡ same_key k p.key → t ≡ has_number k n p
high_enough k n m p e h s = s ∙ sym (ap (λ (t : Bool). t && same_key k p.key) (le-leb n p.stored.session.next_out (omega (arith, e))))

pub another_key : (k : Key) (n : ℕ) (p : Place) → false ≡ same_key k p.key → false ≡ has_number k n p
another_key k n p e = go (leb n p.stored.session.next_out) e
  where
    go : (t : Bool) → false ≡ same_key k p.key → false ≡ (t && same_key k p.key)
    go true e = e
    go false e = refl

-- a place that has it
pub reached : (s : Shape) (w b : List ℕ) (k : Key) (n i : ℕ) {t : Bool} → i < get_or w 0 0 → t ≡ has_number k n (place_at s w b i) → t ≡ true → true ≡ leb n (next_of k (places_of s w b))
reached s w b k n i less e h =
    let p = place_at s w b i in
    let f = and_parts (leb n p.stored.session.next_out) (same_key k p.key) (sym e ∙ h) in
    let same : next_of p.key (places_of s w b) ≡ next_of k (places_of s w b) = ap (λ (j : Key). next_of j (places_of s w b)) (sym (key_sound k p.key f.1)) in
    sym (le-leb n (next_of k (places_of s w b)) (omega (arith, leb-true n p.stored.session.next_out f.0, counted (places_of s w b) i p (place_is s w b i less), same)))

-- a place that has it not
passed : (k : Key) (n : ℕ) (p : Place) (ps : List Place) → has_number k n p ≡ false → leb n (next_of k (p ∷ ps)) ≡ leb n (next_of k ps)
passed k n p ps h = go (same_key k p.key) (leb n p.stored.session.next_out) (leb n (next_of k ps)) refl refl h
  where
    go : (t u v : Bool) → leb n p.stored.session.next_out ≡ u → leb n (next_of k ps) ≡ v → (u && t) ≡ false → leb n (cond t (max p.stored.session.next_out (next_of k ps)) (next_of k ps)) ≡ leb n (next_of k ps)
    go false u v e f g = refl
    go true true v e f g = absurd (true≢false g)
    go true false true e f g = le-leb n (max p.stored.session.next_out (next_of k ps)) (omega (arith, leb-true n (next_of k ps) f)) ∙ sym f
    go true false false e f g = lt-leb n (max p.stored.session.next_out (next_of k ps)) (omega (arith, leb-false n p.stored.session.next_out e, leb-false n (next_of k ps) f)) ∙ sym f

pub low_enough : (k : Key) (n : ℕ) (ps : List Place) → n ≤ 1 → true ≡ leb n (next_of k ps)
low_enough k n ps h = sym (le-leb n (next_of k ps) (omega (arith, h, next_at_least_1 k ps)))

-- a place that has it, whatever comes after
hit : (k : Key) (n : ℕ) (p : Place) (ps : List Place) → has_number k n p ≡ true → leb n (next_of k (p ∷ ps)) ≡ true
hit k n p ps h =
    let f = and_parts (leb n p.stored.session.next_out) (same_key k p.key) h in
    ap (λ (t : Bool). leb n (cond t (max p.stored.session.next_out (next_of k ps)) (next_of k ps))) f.1
    ∙ le-leb n (max p.stored.session.next_out (next_of k ps)) (omega (arith, leb-true n p.stored.session.next_out f.0))

-- ---- the search over mine: a place has it, or the number is at most 1

module _ (k : Key) (n : ℕ) (f : ℕ → Place) where
  abbrev pub has_at : ℕ → Bool
  has_at i = has_number k n (f i)

  has_from : (a m : ℕ) → (list_any has_at (range_with_len a m) || leb n 1) ≡ leb n (next_of k (count_up f a m))
  has_from a zero = refl
  has_from a (suc m) = go (has_at a) refl (has_from (a + 1) m ∙ ap (λ (j : ℕ). leb n (next_of k (count_up f j m))) (add-one a))
    where
      go : (t : Bool) → has_at a ≡ t → (list_any has_at (range_with_len (a + 1) m) || leb n 1) ≡ leb n (next_of k (count_up f (suc a) m))
          → ((t || list_any has_at (range_with_len (a + 1) m)) || leb n 1) ≡ leb n (next_of k (f a ∷ count_up f (suc a) m))
      go true e h = sym (hit k n (f a) (count_up f (suc a) m) e)
      go false e h = h ∙ sym (passed k n (f a) (count_up f (suc a) m) e)

module _ (s : Shape) (w b : List ℕ) (k : Key) (n : ℕ) {t : Bool} (is : t ≡ list_any (has_at k n (place_at s w b)) (range_with_len 0 (get_or w 0 0))) where
  searched : (t || leb n 1) ≡ leb n (next_of k (places_of s w b))
  unfolding places_of
  searched = ap (λ (x : Bool). x || leb n 1) is ∙ has_from k n (place_at s w b) 0 (get_or w 0 0)

  pub there : t ≡ true → t ≡ leb n (next_of k (places_of s w b))
  there e = e ∙ sym (ap (λ (x : Bool). x || leb n 1) e) ∙ searched

  pub not_there : t ≡ false → leb n 1 ≡ leb n (next_of k (places_of s w b))
  not_there e = sym (ap (λ (x : Bool). x || leb n 1) e) ∙ searched

-- ---- over theirs

module _ (mine : List Place) (f : ℕ → Place) where
  abbrev pub reached_at : ℕ → Bool
  reached_at i = leb (f i).stored.session.next_out (next_of (f i).key mine)

  reached_from : (a m : ℕ) → list_all reached_at (range_with_len a m) ≡ is_ahead mine (count_up f a m)
  reached_from a zero = refl
  reached_from a (suc m) = ap (λ (t : Bool). reached_at a && t) (reached_from (a + 1) m ∙ ap (λ (j : ℕ). is_ahead mine (count_up f j m)) (add-one a))

pub all_reached : (mine : List Place) (s : Shape) (w b : List ℕ) {t : Bool} → t ≡ list_all (reached_at mine (place_at s w b)) (range_with_len 0 (get_or w 0 0)) → t ≡ is_ahead mine (places_of s w b)
unfolding places_of
all_reached mine s w b is = is ∙ reached_from mine (place_at s w b) 0 (get_or w 0 0)
