-- The row of handles: what a handle finds after each operation.
-- Assumes nothing.
use mathlib.Core.Path.{◌≡◌, refl, sym, ap, subst, ◌∙◌}
use Prim.Native.Nat.{ℕ, zero, suc}
use mathlib.Core.List.{[], ◌∷◌}
use mathlib.Core.Option.{Option, none, some, map}
use mathlib.Core.Bool.{Bool, true, false, cond, ◌||◌}
use lib.ListN.{length, replicate}
use lib.Dec.{eqb}
use Rattle.model_frame.specs.Parse.{Each}
use Rattle.model_standby.specs.Row.{Row, Used, is_some, freed, has_free, fill, find, replace, has_room, put}
use Rattle.model_session.proofs.Basics.{cond_cases, eqb_true, eqb_sound, none≢some, some_inj, true≢false}

module _ {A : Type 0} where
  pub find_freed : (h : ℕ) (t : Row A) → find h (freed t) ≡ none
  find_freed h [] = refl
  find_freed h (p ∷ t) = find_freed h t

  find_replace_same : (h : ℕ) (v : A) (t : Row A) → find h (replace h v t) ≡ map (λ _. v) (find h t)
  find_replace_same h v [] = refl
  find_replace_same h v (none ∷ t) = find_replace_same h v t
  find_replace_same h v (some e ∷ t) = go (eqb h e.0) refl (find_replace_same h v t)
    where
      go : (b : Bool) → eqb h e.0 ≡ b → find h (replace h v t) ≡ map (λ _. v) (find h t)
          → find h (cond b (some (e.0, v) ∷ t) (some e ∷ replace h v t)) ≡ map (λ _. v) (cond b (some e.1) (find h t))
      go true p ih = ap (λ (b : Bool). cond b (some v) (find h t)) p
      go false p ih = ap (λ (b : Bool). cond b (some e.1) (find h (replace h v t))) p ∙ ih

  pub find_replace_other : (h j : ℕ) (v : A) (t : Row A) → eqb h j ≡ false → find h (replace j v t) ≡ find h t
  find_replace_other h j v [] n = refl
  find_replace_other h j v (none ∷ t) n = find_replace_other h j v t n
  find_replace_other h j v (some e ∷ t) n = go (eqb j e.0) refl (find_replace_other h j v t n)
    where
      go : (b : Bool) → eqb j e.0 ≡ b → find h (replace j v t) ≡ find h t
          → find h (cond b (some (e.0, v) ∷ t) (some e ∷ replace j v t)) ≡ cond (eqb h e.0) (some e.1) (find h t)
      go true p ih =
          let q : eqb h e.0 ≡ false = ap (eqb h) (sym (eqb_sound j e.0 p)) ∙ n in
          ap (λ (b : Bool). cond b (some v) (find h t)) q ∙ sym (ap (λ (b : Bool). cond b (some e.1) (find h t)) q)
      go false p ih = ap (λ (r : Option A). cond (eqb h e.0) (some e.1) r) ih

  pub find_fill_other : (h j : ℕ) (v : A) (t : Row A) → eqb h j ≡ false → find h (fill j v t) ≡ find h t
  find_fill_other h j v [] n = refl
  find_fill_other h j v (none ∷ t) n = ap (λ (b : Bool). cond b (some v) (find h t)) n
  find_fill_other h j v (some e ∷ t) n = ap (λ (r : Option A). cond (eqb h e.0) (some e.1) r) (find_fill_other h j v t n)

  find_fill_same : (h : ℕ) (v : A) (t : Row A) → find h t ≡ none → has_free t ≡ true → find h (fill h v t) ≡ some v
  find_fill_same h v [] p q = absurd (true≢false (sym q))
  find_fill_same h v (none ∷ t) p q = ap (λ (b : Bool). cond b (some v) (find h t)) (eqb_true h)
  find_fill_same h v (some e ∷ t) p q = go (eqb h e.0) p (λ r. find_fill_same h v t r q)
    where
      go : (b : Bool) → cond b (some e.1) (find h t) ≡ none → (find h t ≡ none → find h (fill h v t) ≡ some v)
          → cond b (some e.1) (find h (fill h v t)) ≡ some v
      go true r ih = absurd (none≢some (sym r))
      go false r ih = ih r

  pub find_put_same : (h : ℕ) (v : A) (t : Row A) → has_room h t ≡ true → find h (put h v t) ≡ some v
  unfolding put
  find_put_same h v t r = go (find h t) refl
    where
      go : (o : Option A) → find h t ≡ o → find h (cond (is_some (find h t)) (replace h v t) (fill h v t)) ≡ some v
      go none p = rw p (find_fill_same h v t p (sym (ap (λ (o : Option A). is_some o || has_free t) p) ∙ r))
      go (some a) p = rw p (find_replace_same h v t ∙ ap (map (λ _. v)) p)

  -- a handle that has a place keeps it
  pub find_put_found : (h : ℕ) (v a : A) (t : Row A) → find h t ≡ some a → find h (put h v t) ≡ some v
  find_put_found h v a t p = find_put_same h v t (ap (λ (o : Option A). is_some o || has_free t) p)

  find_fill_self : (h : ℕ) (v a : A) (t : Row A) → find h t ≡ none → find h (fill h v t) ≡ some a → a ≡ v
  find_fill_self h v a [] p q = absurd (none≢some q)
  find_fill_self h v a (none ∷ t) p q = some_inj (sym q ∙ ap (λ (b : Bool). cond b (some v) (find h t)) (eqb_true h))
  find_fill_self h v a (some e ∷ t) p q = go (eqb h e.0) p q (find_fill_self h v a t)
    where
      go : (b : Bool) → cond b (some e.1) (find h t) ≡ none → cond b (some e.1) (find h (fill h v t)) ≡ some a → (find h t ≡ none → find h (fill h v t) ≡ some a → a ≡ v) → a ≡ v
      go true r s ih = absurd (none≢some (sym r))
      go false r s ih = ih r s

  -- what a handle finds after it was put is what was put
  pub find_put_self : (h : ℕ) (v a : A) (t : Row A) → find h (put h v t) ≡ some a → a ≡ v
  unfolding put
  find_put_self h v a t q = go (find h t) refl q
    where
      go : (o : Option A) → find h t ≡ o → find h (cond (is_some o) (replace h v t) (fill h v t)) ≡ some a → a ≡ v
      go none p r = find_fill_self h v a t p r
      go (some x) p r = some_inj (sym r ∙ find_replace_same h v t ∙ ap (map (λ _. v)) p)

  pub find_put_other : (h j : ℕ) (v : A) (t : Row A) → eqb h j ≡ false → find h (put j v t) ≡ find h t
  unfolding put
  find_put_other h j v t n = go (is_some (find j t))
    where
      go : (b : Bool) → find h (cond b (replace j v t) (fill j v t)) ≡ find h t
      go true = find_replace_other h j v t n
      go false = find_fill_other h j v t n

-- ---- the length

module _ {A : Type 0} where
  pub length_freed : (t : Row A) → length (freed t) ≡ length t
  length_freed [] = refl
  length_freed (p ∷ t) = ap suc (length_freed t)

  length_replace : (h : ℕ) (v : A) (t : Row A) → length (replace h v t) ≡ length t
  length_replace h v [] = refl
  length_replace h v (none ∷ t) = ap suc (length_replace h v t)
  length_replace h v (some e ∷ t) = cond_cases (λ (l : Row A). length l ≡ suc (length t)) (eqb h e.0) (λ _. refl) (λ _. ap suc (length_replace h v t))

  length_fill : (h : ℕ) (v : A) (t : Row A) → length (fill h v t) ≡ length t
  length_fill h v [] = refl
  length_fill h v (none ∷ t) = refl
  length_fill h v (some e ∷ t) = ap suc (length_fill h v t)

  pub length_put : (h : ℕ) (v : A) (t : Row A) → length (put h v t) ≡ length t
  unfolding put
  length_put h v t = cond_cases (λ (l : Row A). length l ≡ length t) (is_some (find h t)) (λ _. length_replace h v t) (λ _. length_fill h v t)

-- what holds of every used place
module _ {A : Type 0} (P : A → Type 0) where
  pub used_found : (h : ℕ) (a : A) (t : Row A) → Each (Used P) t → find h t ≡ some a → P a
  used_found h a [] u p = absurd (none≢some p)
  used_found h a (none ∷ t) u p = used_found h a t u.1 p
  used_found h a (some e ∷ t) u p = go (eqb h e.0) p (used_found h a t u.1)
    where
      go : (b : Bool) → cond b (some e.1) (find h t) ≡ some a → (find h t ≡ some a → P a) → P a
      go true q ih = subst P (some_inj q) u.0
      go false q ih = ih q

  used_replace : (h : ℕ) (v : A) (t : Row A) → P v → Each (Used P) t → Each (Used P) (replace h v t)
  used_replace h v [] p u = tt
  used_replace h v (none ∷ t) p u = (tt, used_replace h v t p u.1)
  used_replace h v (some e ∷ t) p u = cond_cases (Each (Used P)) (eqb h e.0) (λ _. (p, u.1)) (λ _. (u.0, used_replace h v t p u.1))

  used_fill : (h : ℕ) (v : A) (t : Row A) → P v → Each (Used P) t → Each (Used P) (fill h v t)
  used_fill h v [] p u = tt
  used_fill h v (none ∷ t) p u = (p, u.1)
  used_fill h v (some e ∷ t) p u = (u.0, used_fill h v t p u.1)

  pub used_put : (h : ℕ) (v : A) (t : Row A) → P v → Each (Used P) t → Each (Used P) (put h v t)
  unfolding put
  used_put h v t p u = cond_cases (Each (Used P)) (is_some (find h t)) (λ _. used_replace h v t p u) (λ _. used_fill h v t p u)

  pub used_freed : (t : Row A) → Each (Used P) (freed t)
  used_freed [] = tt
  used_freed (o ∷ t) = (tt, used_freed t)

  pub used_none : (n : ℕ) → Each (Used P) (replicate n none)
  used_none zero = tt
  used_none (suc n) = (tt, used_none n)

pub used_map : {A : Type 0} (P Q : A → Type 0) → ((a : A) → P a → Q a) → (t : Row A) → Each (Used P) t → Each (Used Q) t
used_map P Q f [] u = tt
used_map P Q f (none ∷ t) u = (tt, used_map P Q f t u.1)
used_map P Q f (some e ∷ t) u = (f e.1 u.0, used_map P Q f t u.1)
