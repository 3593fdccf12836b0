-- The session that a sending names, and the place's parts lent to a call. Assumes nothing.
use mathlib.Core.Path.{◌≡◌, refl, sym, ap, subst, ◌∙◌}
use mathlib.Core.Bool.{Bool, true, false, cond, ◌&&◌}
use mathlib.Core.List.{List, [], ◌∷◌}
use mathlib.Core.Option.{none, some, map}
use Prim.Native.Nat.{ℕ, zero, suc, ◌^◌, ◌≤◌, ◌<◌}
use native.Mathlib.Omega.{arith}
use lib.ListN.{length, get_or, get_elem?}
use lib.Dec.{ltb}
use borrow.Author.Tests.{ltb-true, ltb-false}
use Rattle.model_text.proofs.Formed.{and_l, and_r}
use Rattle.model_frame.specs.Parse.{Each}
use Rattle.model_session.specs.Session.{Session, Holdable, suits}
use Rattle.model_session.proofs.Basics.{none≢some, some_inj}
use Rattle.model_standby.specs.Store.{Place, session_at}
use Rattle.store_place.specs.Place.{stamp_of, session_of, place_in}
use Rattle.store_areas.specs.declared.Shape.{Shape}
use Rattle.store_areas.specs.Areas.{allowed, place_at, places_of}
use Rattle.store_log.proofs.Lawful.{Small}
use Rattle.store_areas.proofs.Holding.{all_holdable}
use Rattle.store_areas.proofs.Lifting.{places_length, session_is}
use Rattle.active.specs.Whole.{stored_at}

beyond : (ps : List Place) (i : ℕ) → length ps ≤ i → get_elem? ps i ≡ none
beyond [] i h = refl
beyond (p ∷ ps) zero h = absurd (no h)
  where
    no : suc (length ps) ≤ 0 → ⊥
    no h = omega arith
beyond (p ∷ ps) (suc i) h = beyond ps i (omega arith)

module _ (s : Shape) (w b : List ℕ) (i : ℕ) where
  abbrev pub held : Session
  held = (place_at s w b i).stored.session

  module _ (t : Bool) (e : t ≡ (allowed s w b && ltb i (get_or w 0 0))) where
    pub in_use : t ≡ true → i < get_or w 0 0
    in_use k = ltb-true i (get_or w 0 0) (and_r (allowed s w b) (ltb i (get_or w 0 0)) (sym e ∙ k))

    pub is_held : t ≡ true → stored_at s w b i ≡ some held
    unfolding stored_at
    is_held k = rw (and_l (allowed s w b) (ltb i (get_or w 0 0)) (sym e ∙ k)) (session_is s w b i (in_use k))

    pub not_held : t ≡ false → stored_at s w b i ≡ none
    unfolding stored_at
    not_held k = go (allowed s w b) (sym e ∙ k)
      where
        past : ltb i (get_or w 0 0) ≡ false → session_at (places_of s w b) i ≡ none
        past f =
            let g : length (places_of s w b) ≤ i = omega (arith, places_length s w b, ltb-false i (get_or w 0 0) f) in
            ap (map (λ (x : Place). x.stored.session)) (beyond (places_of s w b) i g)

        go : (u : Bool) → (u && ltb i (get_or w 0 0)) ≡ false → cond u (session_at (places_of s w b) i) none ≡ none
        go true f = past f
        go false f = refl

  -- the session of the place, as it is read
  pub lent_session : (M : ℕ) (x y : List ℕ) → place_in s.bytes s.messages x y ≡ place_at s w b i → M ≡ s.messages → session_of s.bytes M x y ≡ held
  unfolding place_in
  lent_session M x y e m = ap (λ (k : ℕ). session_of s.bytes k x y) m ∙ ap (λ (p : Place). p.stored.session) e

  -- and whether a version takes its stamp
  pub lent_suits : (x y : List ℕ) → place_in s.bytes s.messages x y ≡ place_at s w b i → (p v : ℕ) → p ≡ v → (t : Bool) → t ≡ suits p (stamp_of x y) → t ≡ suits v held.stamp
  unfolding place_in session_of
  lent_suits x y e p v same t k = k ∙ ap (λ (n : ℕ). suits n (stamp_of x y)) same ∙ ap (λ (q : Place). suits v q.stored.session.stamp) e

-- what is stored can be held
pub stored_holdable : (s : Shape) (w b : List ℕ) (i : ℕ) (a : Session) → Small (2 ^ 64) w → Small 256 b → stored_at s w b i ≡ some a → Holdable s.bytes s.messages a
unfolding stored_at
stored_holdable s w b i a hw hb k = go (allowed s w b) k
  where
    fits : Each (λ (p : Place). Holdable s.bytes s.messages p.stored.session) (places_of s w b)
    fits = all_holdable s w b hw hb

    at : (ps : List Place) (j : ℕ) → Each (λ (p : Place). Holdable s.bytes s.messages p.stored.session) ps → session_at ps j ≡ some a → Holdable s.bytes s.messages a
    at [] j h e = absurd (none≢some e)
    at (p ∷ ps) zero h e = subst (Holdable s.bytes s.messages) (some_inj e) h.0
    at (p ∷ ps) (suc j) h e = at ps j h.1 e

    go : (t : Bool) → cond t (session_at (places_of s w b) i) none ≡ some a → Holdable s.bytes s.messages a
    go true e = at (places_of s w b) i fits e
    go false e = absurd (none≢some e)
