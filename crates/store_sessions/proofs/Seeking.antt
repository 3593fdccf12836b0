-- The search for a key. Assumes nothing.
use mathlib.Core.Path.{◌≡◌, refl, sym, ap, ◌∙◌}
use mathlib.Core.Bool.{Bool, true, false, cond, true≢false}
use mathlib.Core.List.{List}
use Prim.Native.Nat.{ℕ, zero, suc, ◌+◌}
use native.Mathlib.Omega.{arith}
use native.Mathlib.Numerals.{add-one}
use lib.Dec.{ltb}
use lib.ListN.{length, get_or}
use borrow.Author.Tests.{lt-ltb, le-ltb, ltb-true, ltb-false}
use Rattle.std.specs.Prelude.{Option, Some, None, is_some}
use Rattle.std.specs.List.{find, range_with_len}
use Rattle.model_frame.specs.Frame.{Key}
use Rattle.model_standby.specs.Store.{Place, same_key, place_of, is_stored}
use Rattle.model_standby.proofs.Places.{place_low}
use Rattle.store_areas.specs.declared.Shape.{Shape}
use Rattle.store_areas.specs.declared.store.View.{View}
use Rattle.store_areas.specs.Over.{ViewOf}
use Rattle.store_areas.specs.Areas.{count_up, allowed, place_at, places_of}
use Rattle.store_sessions.specs.Answers.{gives, refuses, stored_place, sought_in}

less_suc : (x y : ℕ) → ltb (suc x) (suc y) ≡ ltb x y
less_suc x y = go (ltb x y) refl
  where
    go : (t : Bool) → ltb x y ≡ t → ltb (suc x) (suc y) ≡ t
    go true e = lt-ltb (suc x) (suc y) (omega (arith, ltb-true x y e))
    go false e = le-ltb (suc x) (suc y) (omega (arith, ltb-false x y e))

module _ (k : Key) (f : ℕ → Place) where
  abbrev pub is_here : ℕ → Bool
  is_here i = same_key k (f i).key

  -- of places of which the first is number a
  abbrev place_from : ℕ → List Place → Option ℕ
  place_from a ps = cond (is_stored k ps) (Some (a + place_of k ps)) None

  found_from : (a n : ℕ) → find is_here (range_with_len a n) ≡ place_from a (count_up f a n)
  found_from a zero = refl
  found_from a (suc n) = go (is_here a) (found_from (a + 1) n ∙ ap (λ (j : ℕ). place_from (a + 1) (count_up f j n)) (add-one a))
    where
      go : (t : Bool) → find is_here (range_with_len (a + 1) n) ≡ place_from (a + 1) (count_up f (suc a) n)
          → cond t (Some a) (find is_here (range_with_len (a + 1) n)) ≡ cond (ltb (cond t 0 (suc (place_of k (count_up f (suc a) n)))) (suc (length (count_up f (suc a) n)))) (Some (a + cond t 0 (suc (place_of k (count_up f (suc a) n))))) None
      go true h =
          let e : a + 0 ≡ a = omega arith in
          sym (ap (λ (t : Bool). cond t (Some (a + 0)) None) (lt-ltb 0 (suc (length (count_up f (suc a) n))) (omega arith)) ∙ ap Some e)
      go false h =
          let p : ℕ = place_of k (count_up f (suc a) n) in
          let e : a + 1 + p ≡ a + suc p = omega arith in
          h ∙ (λ j. cond (sym (less_suc p (length (count_up f (suc a) n))) j) (Some (e j)) None)

pub found : (k : Key) (s : Shape) (w b : List ℕ) {r : Option ℕ} → r ≡ find (is_here k (place_at s w b)) (range_with_len 0 (get_or w 0 0)) → r ≡ stored_place k (places_of s w b)
unfolding places_of
found k s w b e = e ∙ found_from k (place_at s w b) 0 (get_or w 0 0) ∙ start
  where
    start : cond (is_stored k (count_up (place_at s w b) 0 (get_or w 0 0))) (Some (0 + place_of k (count_up (place_at s w b) 0 (get_or w 0 0)))) None ≡ stored_place k (count_up (place_at s w b) 0 (get_or w 0 0))
    start = let e : 0 + place_of k (count_up (place_at s w b) 0 (get_or w 0 0)) ≡ place_of k (count_up (place_at s w b) 0 (get_or w 0 0)) = omega arith in ap (λ (i : ℕ). cond (is_stored k (count_up (place_at s w b) 0 (get_or w 0 0))) (Some i) None) e

-- ---- what is known of a key by its place

module _ (k : Key) (ps : List Place) where
  by_stored : {r : Option ℕ} (t : Bool) → is_stored k ps ≡ t → r ≡ stored_place k ps → r ≡ cond t (Some (place_of k ps)) None
  by_stored t e is = is ∙ ap (λ (u : Bool). cond u (Some (place_of k ps)) None) e

  pub is_found : {t : Bool} {r : Option ℕ} → t ≡ is_some r → r ≡ stored_place k ps → t ≡ is_stored k ps
  is_found e is = e ∙ ap is_some is ∙ go (is_stored k ps)
    where
      go : (t : Bool) → is_some (cond t (Some (place_of k ps)) None) ≡ t
      go true = refl
      go false = refl

  pub stored_at : {i : ℕ} → Some i ≡ stored_place k ps → (is_stored k ps ≡ true) × (i ≡ place_of k ps)
  stored_at {i} is = go (is_stored k ps) refl
    where
      go : (t : Bool) → is_stored k ps ≡ t → (is_stored k ps ≡ true) × (i ≡ place_of k ps)
      go true e = (e, ap (λ (o : Option ℕ). elim o [ None ↦ 0 | Some n ↦ n ]) (by_stored true e is))
      go false e = absurd (true≢false (ap is_some (by_stored false e is)))

  pub not_stored : None ≡ stored_place k ps → is_stored k ps ≡ false
  not_stored is = go (is_stored k ps) refl
    where
      go : (t : Bool) → is_stored k ps ≡ t → is_stored k ps ≡ false
      go true e = absurd (true≢false (ap is_some (sym (by_stored true e is))))
      go false e = e

  -- a key that is new comes after all
  pub new_at : is_stored k ps ≡ false → place_of k ps ≡ length ps
  new_at e = omega (arith, ltb-false (place_of k ps) (length ps) e, place_low k ps)

-- ---- the answer on any areas

pub sought : (s : Shape) (w b : List ℕ) (k : Key) (i : Option ℕ) (v : View) → ViewOf s w b v → i ≡ stored_place k (places_of v.shape v.words.now v.bytes.now) → gives i ≡ sought_in s w b k
unfolding sought_in
sought s w b k i v o q =
    ap gives (q ∙ (λ j. stored_place k (places_of (o.shape j) (o.words j) (o.bytes j))))
    ∙ sym (ap (λ (t : Bool). cond t (gives (stored_place k (places_of s w b))) (refuses 25)) o.rules)

pub not_sought : (s : Shape) (w b : List ℕ) (k : Key) → allowed s w b ≡ false → refuses 25 ≡ sought_in s w b k
unfolding sought_in
not_sought s w b k e = sym (ap (λ (t : Bool). cond t (gives (stored_place k (places_of s w b))) (refuses 25)) e)
