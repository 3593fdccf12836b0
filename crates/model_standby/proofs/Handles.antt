-- One handle for a session: the rule of a row is kept by what the calls do to it, and what a handle finds once the others that name a session place went.
-- Assumes nothing.
use mathlib.Core.Path.{◌≡◌, refl, sym, ap, ◌∙◌}
use Prim.Native.Nat.{ℕ, zero, suc}
use mathlib.Core.List.{[], ◌∷◌}
use mathlib.Core.Option.{Option, none, some}
use mathlib.Core.Bool.{Bool, true, false, cond, not, ◌&&◌, ◌||◌}
use lib.ListN.{length, replicate}
use lib.Dec.{eqb}
use Rattle.model_frame.specs.Parse.{Each}
use Rattle.model_session.proofs.Basics.{and_true, cond_cases, cond-true, cond-false, eqb_true, eqb_sound, none≢some, some_inj, true≢false}
use Rattle.model_standby.specs.Row.{Row, Used, is_some, freed, find, replace, fill, put}
use Rattle.model_standby.specs.State.{Bound}
use Rattle.model_standby.specs.Handles.{names_place, apart, without_others}
use Rattle.model_standby.proofs.Rows.{find_replace_other, find_fill_other}

-- ---- tests

pub eqb_other : (m n : ℕ) → eqb m n ≡ false → eqb n m ≡ false
eqb_other m n e = go (eqb n m) refl
  where
    go : (b : Bool) → eqb n m ≡ b → eqb n m ≡ false
    go false p = p
    go true p = absurd (true≢false (sym (eqb_true m) ∙ ap (eqb m) (sym (eqb_sound n m p)) ∙ e))

pub or_false : (a b : Bool) → (a || b) ≡ false → (a ≡ false) × (b ≡ false)
or_false true b p = absurd (true≢false p)
or_false false b p = (refl, p)

or_none : {a b : Bool} → a ≡ false → b ≡ false → (a || b) ≡ false
or_none {a} {b} p q = rw (p, q)

-- ---- the first taken place of a row that is apart

pub record HeadApart (e : ℕ × Bound) (t : Row Bound) : Type 0 where
  pub other_handle : find e.0 t ≡ none
  pub other_place : names_place e.1.place t ≡ false
  pub rest : apart t ≡ true

pub head_apart : (e : ℕ × Bound) (t : Row Bound) → apart (some e ∷ t) ≡ true → HeadApart e t
head_apart e t a = go (find e.0 t) (names_place e.1.place t) refl refl
  where
    go : (o : Option Bound) (n : Bool) → find e.0 t ≡ o → names_place e.1.place t ≡ n → HeadApart e t
    go none false p q = record { other_handle = p; other_place = q; rest = rw (p, q) at a }
    go none true p q = absurd (true≢false (sym (rw (p, q) at a)))
    go (some x) n p q = absurd (true≢false (sym (rw p at a)))

made_apart : (e : ℕ × Bound) (t : Row Bound) → find e.0 t ≡ none → names_place e.1.place t ≡ false → apart t ≡ true → apart (some e ∷ t) ≡ true
made_apart e t p q r = rw (p, q) r

-- ---- every session has at most one handle

found_names : (h : ℕ) (b : Bound) (t : Row Bound) → find h t ≡ some b → names_place b.place t ≡ true
found_names h b [] f = absurd (none≢some f)
found_names h b (none ∷ t) f = found_names h b t f
found_names h b (some e ∷ t) f = go (eqb h e.0) f (found_names h b t)
  where
    go : (c : Bool) → cond c (some e.1) (find h t) ≡ some b → (find h t ≡ some b → names_place b.place t ≡ true) → (eqb b.place e.1.place || names_place b.place t) ≡ true
    go true p ih = ap (λ (x : Bool). x || names_place b.place t) (ap (λ (x : Bound). eqb b.place x.place) (some_inj p) ∙ eqb_true b.place)
    go false p ih = or_true (eqb b.place e.1.place) (ih p)
      where
        or_true : (x : Bool) {y : Bool} → y ≡ true → (x || y) ≡ true
        or_true true p = refl
        or_true false p = p

pub one_handle : (g h : ℕ) (a b : Bound) (t : Row Bound) → apart t ≡ true → find g t ≡ some a → find h t ≡ some b → a.place ≡ b.place → g ≡ h
one_handle g h a b [] r p q e = absurd (none≢some p)
one_handle g h a b (none ∷ t) r p q e = one_handle g h a b t r p q e
one_handle g h a b (some x ∷ t) r p q e = go (eqb g x.0) (eqb h x.0) refl refl p q (λ u v. one_handle g h a b t z.rest u v e)
  where
    z : HeadApart x t
    z = head_apart x t r

    -- the first taken place is c's, and a later one names the same session place
    twice : (y : ℕ) (c d : Bound) → some x.1 ≡ some c → find y t ≡ some d → c.place ≡ d.place → ⊥
    twice y c d u v w =
        true≢false (sym (found_names y d t v) ∙ ap (λ (n : ℕ). names_place n t) (sym w) ∙ ap (λ (n : Bound). names_place n.place t) (sym (some_inj u)) ∙ z.other_place)

    go : (u v : Bool) → eqb g x.0 ≡ u → eqb h x.0 ≡ v → cond u (some x.1) (find g t) ≡ some a → cond v (some x.1) (find h t) ≡ some b
        → (find g t ≡ some a → find h t ≡ some b → g ≡ h) → g ≡ h
    go true true u v p q ih = eqb_sound g x.0 u ∙ sym (eqb_sound h x.0 v)
    go true false u v p q ih = absurd (twice h a b p q e)
    go false true u v p q ih = absurd (twice g b a q p (sym e))
    go false false u v p q ih = ih p q

-- ---- what a handle finds once the others that name p went

-- the handle itself finds what it found
pub own_stays : (h p : ℕ) (t : Row Bound) → find h (without_others h p t) ≡ find h t
own_stays h p [] = refl
own_stays h p (none ∷ t) = own_stays h p t
own_stays h p (some e ∷ t) = go (eqb h e.0) (eqb p e.1.place) refl (own_stays h p t)
  where
    go : (u v : Bool) → eqb h e.0 ≡ u → find h (without_others h p t) ≡ find h t → find h (cond (not u && v) none (some e) ∷ without_others h p t) ≡ cond u (some e.1) (find h t)
    go true v q ih = cond-true _ _ q
    go false true q ih = ih
    go false false q ih = cond-false _ _ q ∙ ih

-- any handle finds what it found, or nothing
pub others_found : (h p x : ℕ) (b : Bound) (t : Row Bound) → apart t ≡ true → find x (without_others h p t) ≡ some b → find x t ≡ some b
others_found h p x b [] a f = f
others_found h p x b (none ∷ t) a f = others_found h p x b t a f
others_found h p x b (some e ∷ t) a f = go (not (eqb h e.0) && eqb p e.1.place) (eqb x e.0) refl f (others_found h p x b t z.rest)
  where
    z : HeadApart e t
    z = head_apart e t a

    go : (c d : Bool) → eqb x e.0 ≡ d → find x (cond c none (some e) ∷ without_others h p t) ≡ some b → (find x (without_others h p t) ≡ some b → find x t ≡ some b)
        → cond d (some e.1) (find x t) ≡ some b
    go true true q f ih = absurd (none≢some (sym z.other_handle ∙ ap (λ (y : ℕ). find y t) (sym (eqb_sound x e.0 q)) ∙ ih f))
    go true false q f ih = ih f
    go false true q f ih = sym (cond-true _ _ q) ∙ f
    go false false q f ih = ih (sym (cond-false _ _ q) ∙ f)

pub others_none : (h p x : ℕ) (t : Row Bound) → find x t ≡ none → find x (without_others h p t) ≡ none
others_none h p x [] f = refl
others_none h p x (none ∷ t) f = others_none h p x t f
others_none h p x (some e ∷ t) f = go (not (eqb h e.0) && eqb p e.1.place) (eqb x e.0) refl f (others_none h p x t)
  where
    go : (c d : Bool) → eqb x e.0 ≡ d → cond d (some e.1) (find x t) ≡ none → (find x t ≡ none → find x (without_others h p t) ≡ none)
        → find x (cond c none (some e) ∷ without_others h p t) ≡ none
    go c true q f ih = absurd (none≢some (sym f))
    go true false q f ih = ih f
    go false false q f ih = cond-false _ _ q ∙ ih f

-- another handle that named p finds nothing
pub others_gone : (h g : ℕ) (b : Bound) (t : Row Bound) → apart t ≡ true → find g t ≡ some b → eqb h g ≡ false → find g (without_others h b.place t) ≡ none
others_gone h g b [] a f n = refl
others_gone h g b (none ∷ t) a f n = others_gone h g b t a f n
others_gone h g b (some e ∷ t) a f n = go (eqb g e.0) refl f (λ q. others_gone h g b t z.rest q n)
  where
    z : HeadApart e t
    z = head_apart e t a

    miss : (c : Bool) → eqb g e.0 ≡ false → find g (without_others h b.place t) ≡ none → find g (cond c none (some e) ∷ without_others h b.place t) ≡ none
    miss true q ih = ih
    miss false q ih = cond-false _ _ q ∙ ih

    go : (d : Bool) → eqb g e.0 ≡ d → cond d (some e.1) (find g t) ≡ some b → (find g t ≡ some b → find g (without_others h b.place t) ≡ none)
        → find g (cond (not (eqb h e.0) && eqb b.place e.1.place) none (some e) ∷ without_others h b.place t) ≡ none
    go true q f ih =
        ap (λ (c : Bool). find g (cond c none (some e) ∷ without_others h b.place t)) (
        and_true (ap not (ap (eqb h) (sym (eqb_sound g e.0 q)) ∙ n)) (ap (λ (x : Bound). eqb b.place x.place) (some_inj f) ∙ eqb_true b.place)
        )
        ∙ others_none h b.place g t (ap (λ (y : ℕ). find y t) (eqb_sound g e.0 q) ∙ z.other_handle)
    go false q f ih = miss (not (eqb h e.0) && eqb b.place e.1.place) q (ih f)

-- whatever another handle that named p had, is gone
pub others_forget : (h g p : ℕ) (b x : Bound) (t : Row Bound) → find g t ≡ some b → eqb h g ≡ false → b.place ≡ p → x.place ≡ p → without_others h p (put g x t) ≡ without_others h p t
unfolding put
others_forget h g p b x t f n at at₁ = ap (λ (o : Option Bound). without_others h p (cond (is_some o) (replace g x t) (fill g x t))) f ∙ go t f
  where
    other : (y : Bound) → y.place ≡ p → (not (eqb h g) && eqb p y.place) ≡ true
    other y q = and_true (ap not n) (ap (eqb p) q ∙ eqb_true p)

    go : (t : Row Bound) → find g t ≡ some b → without_others h p (replace g x t) ≡ without_others h p t
    go [] f = refl
    go (none ∷ t) f = ap (λ (l : Row Bound). none ∷ l) (go t f)
    go (some e ∷ t) f = head (eqb g e.0) refl f (go t)
      where
        head : (c : Bool) → eqb g e.0 ≡ c → cond c (some e.1) (find g t) ≡ some b → (find g t ≡ some b → without_others h p (replace g x t) ≡ without_others h p t)
            → without_others h p (cond c (some (e.0, x) ∷ t) (some e ∷ replace g x t)) ≡ cond (not (eqb h e.0) && eqb p e.1.place) none (some e) ∷ without_others h p t
        head true q f ih =
            let named : e.0 ≡ g = sym (eqb_sound g e.0 q) in
            ap (λ (o : Option (ℕ × Bound)). o ∷ without_others h p t) (
            cond-true _ _ (ap (λ (y : ℕ). not (eqb h y) && eqb p x.place) named ∙ other x at₁)
            ∙ sym (cond-true _ _ (ap (λ (y : ℕ). not (eqb h y) && eqb p e.1.place) named ∙ other e.1 (ap (λ (y : Bound). y.place) (some_inj f) ∙ at)))
            )
        head false q f ih = ap (λ (l : Row Bound). cond (not (eqb h e.0) && eqb p e.1.place) none (some e) ∷ l) (ih f)

-- ---- the rule is kept

-- a taken place of another handle than h names p
abbrev pub others_name : ℕ → ℕ → Row Bound → Bool
others_name h p [] = false
others_name h p (none ∷ t) = others_name h p t
others_name h p (some e ∷ t) = (not (eqb h e.0) && eqb p e.1.place) || others_name h p t

pub others_clear : (h p : ℕ) (t : Row Bound) → others_name h p (without_others h p t) ≡ false
others_clear h p [] = refl
others_clear h p (none ∷ t) = others_clear h p t
others_clear h p (some e ∷ t) = go (not (eqb h e.0) && eqb p e.1.place) refl (others_clear h p t)
  where
    go : (c : Bool) → (not (eqb h e.0) && eqb p e.1.place) ≡ c → others_name h p (without_others h p t) ≡ false → others_name h p (cond c none (some e) ∷ without_others h p t) ≡ false
    go true q ih = ih
    go false q ih = or_none q ih

-- of a handle that the row doesn't have all are others
pub all_others : (h p : ℕ) (t : Row Bound) → find h t ≡ none → others_name h p t ≡ names_place p t
all_others h p [] f = refl
all_others h p (none ∷ t) f = all_others h p t f
all_others h p (some e ∷ t) f = go (eqb h e.0) f (all_others h p t)
  where
    go : (c : Bool) → cond c (some e.1) (find h t) ≡ none → (find h t ≡ none → others_name h p t ≡ names_place p t)
        → ((not c && eqb p e.1.place) || others_name h p t) ≡ (eqb p e.1.place || names_place p t)
    go true f ih = absurd (none≢some (sym f))
    go false f ih = ap (λ (x : Bool). eqb p e.1.place || x) (ih f)

-- a handle's own session place is named by no other
own_only : (h : ℕ) (b : Bound) (t : Row Bound) → apart t ≡ true → find h t ≡ some b → others_name h b.place t ≡ false
own_only h b [] a f = refl
own_only h b (none ∷ t) a f = own_only h b t a f
own_only h b (some e ∷ t) a f = go (eqb h e.0) refl f (own_only h b t z.rest)
  where
    z : HeadApart e t
    z = head_apart e t a

    -- a later one names b's place, so the first does not
    other : (c : Bool) → eqb b.place e.1.place ≡ c → find h t ≡ some b → c ≡ false
    other false q f = refl
    other true q f = absurd (true≢false (sym (found_names h b t f) ∙ ap (λ (n : ℕ). names_place n t) (eqb_sound b.place e.1.place q) ∙ z.other_place))

    go : (c : Bool) → eqb h e.0 ≡ c → cond c (some e.1) (find h t) ≡ some b → (find h t ≡ some b → others_name h b.place t ≡ false)
        → ((not c && eqb b.place e.1.place) || others_name h b.place t) ≡ false
    go true q f ih =
        all_others h b.place t (ap (λ (y : ℕ). find y t) (eqb_sound h e.0 q) ∙ z.other_handle) ∙ ap (λ (x : Bound). names_place x.place t) (sym (some_inj f)) ∙ z.other_place
    go false q f ih = or_none (other (eqb b.place e.1.place) refl f) (ih f)

others_unnamed : (h p q : ℕ) (t : Row Bound) → names_place q t ≡ false → names_place q (without_others h p t) ≡ false
others_unnamed h p q [] n = refl
others_unnamed h p q (none ∷ t) n = others_unnamed h p q t n
others_unnamed h p q (some e ∷ t) n = go (not (eqb h e.0) && eqb p e.1.place) (or_false (eqb q e.1.place) (names_place q t) n) (others_unnamed h p q t)
  where
    go : (c : Bool) → (eqb q e.1.place ≡ false) × (names_place q t ≡ false) → (names_place q t ≡ false → names_place q (without_others h p t) ≡ false)
        → names_place q (cond c none (some e) ∷ without_others h p t) ≡ false
    go true z ih = ih z.1
    go false z ih = or_none z.0 (ih z.1)

pub others_apart : (h p : ℕ) (t : Row Bound) → apart t ≡ true → apart (without_others h p t) ≡ true
others_apart h p [] a = refl
others_apart h p (none ∷ t) a = others_apart h p t a
others_apart h p (some e ∷ t) a = go (not (eqb h e.0) && eqb p e.1.place) (head_apart e t a) (others_apart h p t)
  where
    go : (c : Bool) → HeadApart e t → (apart t ≡ true → apart (without_others h p t) ≡ true) → apart (cond c none (some e) ∷ without_others h p t) ≡ true
    go true z ih = ih z.rest
    go false z ih = made_apart e (without_others h p t) (others_none h p e.0 t z.other_handle) (others_unnamed h p e.1.place t z.other_place) (ih z.rest)

replace_unnamed : (q h : ℕ) (b : Bound) (t : Row Bound) → eqb q b.place ≡ false → names_place q t ≡ false → names_place q (replace h b t) ≡ false
replace_unnamed q h b [] n u = refl
replace_unnamed q h b (none ∷ t) n u = replace_unnamed q h b t n u
replace_unnamed q h b (some e ∷ t) n u = go (eqb h e.0) (or_false (eqb q e.1.place) (names_place q t) u) (replace_unnamed q h b t n)
  where
    go : (c : Bool) → (eqb q e.1.place ≡ false) × (names_place q t ≡ false) → (names_place q t ≡ false → names_place q (replace h b t) ≡ false)
        → names_place q (cond c (some (e.0, b) ∷ t) (some e ∷ replace h b t)) ≡ false
    go true z ih = or_none n z.1
    go false z ih = or_none z.0 (ih z.1)

fill_unnamed : (q h : ℕ) (b : Bound) (t : Row Bound) → eqb q b.place ≡ false → names_place q t ≡ false → names_place q (fill h b t) ≡ false
fill_unnamed q h b [] n u = refl
fill_unnamed q h b (none ∷ t) n u = or_none n u
fill_unnamed q h b (some e ∷ t) n u =
    let z = or_false (eqb q e.1.place) (names_place q t) u in
    or_none z.0 (fill_unnamed q h b t n z.1)

replace_apart : (h : ℕ) (b : Bound) (t : Row Bound) → apart t ≡ true → others_name h b.place t ≡ false → apart (replace h b t) ≡ true
replace_apart h b [] a n = refl
replace_apart h b (none ∷ t) a n = replace_apart h b t a n
replace_apart h b (some e ∷ t) a n = go (eqb h e.0) refl (or_false (not (eqb h e.0) && eqb b.place e.1.place) (others_name h b.place t) n) (replace_apart h b t z.rest)
  where
    z : HeadApart e t
    z = head_apart e t a

    go : (c : Bool) → eqb h e.0 ≡ c → ((not (eqb h e.0) && eqb b.place e.1.place) ≡ false) × (others_name h b.place t ≡ false) → (others_name h b.place t ≡ false → apart (replace h b t) ≡ true)
        → apart (cond c (some (e.0, b) ∷ t) (some e ∷ replace h b t)) ≡ true
    go true q n ih = made_apart (e.0, b) t z.other_handle (sym (all_others h b.place t (ap (λ (y : ℕ). find y t) (eqb_sound h e.0 q) ∙ z.other_handle)) ∙ n.1) z.rest
    go false q n ih =
        let p : eqb b.place e.1.place ≡ false = sym (ap (λ (c : Bool). not c && eqb b.place e.1.place) q) ∙ n.0 in
        made_apart e (replace h b t) (find_replace_other e.0 h b t (eqb_other h e.0 q) ∙ z.other_handle)
        (replace_unnamed e.1.place h b t (eqb_other b.place e.1.place p) z.other_place) (ih n.1)

fill_apart : (h : ℕ) (b : Bound) (t : Row Bound) → find h t ≡ none → apart t ≡ true → names_place b.place t ≡ false → apart (fill h b t) ≡ true
fill_apart h b [] f a n = refl
fill_apart h b (none ∷ t) f a n = made_apart (h, b) t f n a
fill_apart h b (some e ∷ t) f a n = go (eqb h e.0) refl f (or_false (eqb b.place e.1.place) (names_place b.place t) n) (λ q. fill_apart h b t q z.rest)
  where
    z : HeadApart e t
    z = head_apart e t a

    go : (c : Bool) → eqb h e.0 ≡ c → cond c (some e.1) (find h t) ≡ none → (eqb b.place e.1.place ≡ false) × (names_place b.place t ≡ false)
        → (find h t ≡ none → names_place b.place t ≡ false → apart (fill h b t) ≡ true) → apart (some e ∷ fill h b t) ≡ true
    go true q f n ih = absurd (none≢some (sym f))
    go false q f n ih =
        made_apart e (fill h b t) (find_fill_other e.0 h b t (eqb_other h e.0 q) ∙ z.other_handle)
        (fill_unnamed e.1.place h b t (eqb_other b.place e.1.place n.0) z.other_place) (ih f n.1)

-- h gets a value whose session place no other handle has
pub put_apart : (h : ℕ) (b : Bound) (t : Row Bound) → apart t ≡ true → others_name h b.place t ≡ false → apart (put h b t) ≡ true
unfolding put
put_apart h b t a n = go (find h t) refl
  where
    go : (o : Option Bound) → find h t ≡ o → apart (cond (is_some o) (replace h b t) (fill h b t)) ≡ true
    go none f = fill_apart h b t f a (sym (all_others h b.place t f) ∙ n)
    go (some x) f = replace_apart h b t a n

-- h, bound to a session place, gets another value with it
pub set_apart : (h : ℕ) (b b₁ : Bound) (t : Row Bound) → apart t ≡ true → find h t ≡ some b → b₁.place ≡ b.place → apart (put h b₁ t) ≡ true
set_apart h b b₁ t a f e = put_apart h b₁ t a (ap (λ (p : ℕ). others_name h p t) e ∙ own_only h b t a f)

-- an accepted Bind
pub bind_apart : (h p : ℕ) (b : Bound) (t : Row Bound) → apart t ≡ true → b.place ≡ p → apart (put h b (without_others h p t)) ≡ true
bind_apart h p b t a e = put_apart h b (without_others h p t) (others_apart h p t a) (ap (λ (q : ℕ). others_name h q (without_others h p t)) e ∙ others_clear h p t)

pub freed_apart : (t : Row Bound) → apart (freed t) ≡ true
freed_apart [] = refl
freed_apart (o ∷ t) = freed_apart t

pub none_apart : (n : ℕ) → apart (replicate n none) ≡ true
none_apart zero = refl
none_apart (suc n) = none_apart n

-- ---- of all taken places, and how many there are

pub used_others : (P : Bound → Type 0) (h p : ℕ) (t : Row Bound) → Each (Used P) t → Each (Used P) (without_others h p t)
used_others P h p [] u = tt
used_others P h p (none ∷ t) u = (tt, used_others P h p t u.1)
used_others P h p (some e ∷ t) u = cond_cases (λ (o : Option (ℕ × Bound)). Each (Used P) (o ∷ without_others h p t)) (not (eqb h e.0) && eqb p e.1.place) (λ _. (tt, used_others P h p t u.1)) (λ _. (u.0, used_others P h p t u.1))

pub others_length : (h p : ℕ) (t : Row Bound) → length (without_others h p t) ≡ length t
others_length h p [] = refl
others_length h p (none ∷ t) = ap suc (others_length h p t)
others_length h p (some e ∷ t) = ap suc (others_length h p t)
