-- Making changes one after the other and segment after segment: those still to come, made from here, are all made from the start. Assumes nothing.
use mathlib.Core.Path.{◌≡◌, refl, sym, ap, subst, ◌∙◌}
use mathlib.Core.Bool.{Bool, true, false, ◌&&◌}
use mathlib.Core.List.{List, [], ◌∷◌, ◌++◌}
use Prim.Native.Nat.{ℕ, suc, ◌+◌, ◌-◌, ◌≤◌}
use native.Mathlib.Omega.{arith}
use lib.Dec.{leb, ltb, eqb}
use lib.ListN.{length}
use Rattle.model_text.proofs.Formed.{and_l, and_r}
use Rattle.model_frame.specs.Frame.{Change, set_incoming, set_incoming_in_flight, set_in_flight, record_msg, record_bare, reset, set_created_at, set_marks}
use Rattle.model_frame.specs.Parse.{is_empty, Each}
use Rattle.model_frame.specs.Writing.{fine_change}
use Rattle.model_frame.proofs.SoundChange.{TakenChange}
use Rattle.model_session.specs.Session.{Session, fits, apply, apply_all, top}
use Rattle.model_standby.specs.Store.{Place, on_stored, changed}
use Rattle.store_place.specs.Place.{next_out_of, place_in}
use Rattle.standby_apply.proofs.Loop.{next_out_lem}

-- ---- changes that fit

fits_front : (next : ℕ) (cs ds : List Change) → fits next (cs ++ ds) ≡ true → fits next cs ≡ true
fits_front next [] ds h = refl
fits_front next (set_incoming n ∷ cs) ds h = fits_front next cs ds h
fits_front next (set_incoming_in_flight n f ∷ cs) ds h = fits_front next cs ds h
fits_front next (set_in_flight f ∷ cs) ds h = fits_front next cs ds h
fits_front next (record_msg q w ∷ cs) ds h = (λ j. and_l (eqb q next && ltb q top) (fits (suc q) (cs ++ ds)) h j && fits_front (suc q) cs ds (and_r (eqb q next && ltb q top) (fits (suc q) (cs ++ ds)) h) j)
fits_front next (record_bare q ∷ cs) ds h = (λ j. and_l (leb next q && ltb q top) (fits (suc q) (cs ++ ds)) h j && fits_front (suc q) cs ds (and_r (leb next q && ltb q top) (fits (suc q) (cs ++ ds)) h) j)
fits_front next (reset ∷ cs) ds h = fits_front 1 cs ds h
fits_front next (set_created_at t ∷ cs) ds h = fits_front next cs ds h
fits_front next (set_marks m ∷ cs) ds h = fits_front next cs ds h

-- those behind fit on after the first is made
fits_on : (C M : ℕ) (s : Session) (c : Change) (cs : List Change) → fits s.next_out (c ∷ cs) ≡ true → fits (apply C M c s).next_out cs ≡ true
unfolding apply
fits_on C M s (set_incoming n) cs h = h
fits_on C M s (set_incoming_in_flight n f) cs h = h
fits_on C M s (set_in_flight f) cs h = h
fits_on C M s (record_msg q w) cs h = and_r (eqb q s.next_out && ltb q top) (fits (suc q) cs) h
fits_on C M s (record_bare q) cs h = and_r (leb s.next_out q && ltb q top) (fits (suc q) cs) h
fits_on C M s reset cs h = h
fits_on C M s (set_created_at t) cs h = h
fits_on C M s (set_marks m) cs h = h

fits_behind : (C M : ℕ) (s : Session) (cs ds : List Change) → fits s.next_out (cs ++ ds) ≡ true → fits (apply_all C M cs s).next_out ds ≡ true
fits_behind C M s [] ds h = h
fits_behind C M s (c ∷ cs) ds h = fits_behind C M (apply C M c s) cs ds (fits_on C M s c (cs ++ ds) h)

-- ---- changes made

all_append : (C M : ℕ) (cs ds : List Change) (s : Session) → apply_all C M ds (apply_all C M cs s) ≡ apply_all C M (cs ++ ds) s
all_append C M [] ds s = refl
all_append C M (c ∷ cs) ds s = all_append C M cs ds (apply C M c s)

flag_append : (d : Bool) (cs ds : List Change) → ((d && is_empty cs) && is_empty ds) ≡ (d && is_empty (cs ++ ds))
flag_append true [] ds = refl
flag_append false [] ds = refl
flag_append true (c ∷ cs) ds = refl
flag_append false (c ∷ cs) ds = refl

changed_append : (C M : ℕ) (cs ds : List Change) (x : Place) → on_stored (changed C M ds) (on_stored (changed C M cs) x) ≡ on_stored (changed C M (cs ++ ds)) x
changed_append C M cs ds x = λ j. record { key = x.key; stored = record { session = all_append C M cs ds x.stored.session j; durable = flag_append x.stored.durable cs ds j } }

changed_none : (C M : ℕ) (x : Place) → on_stored (changed C M []) x ≡ x
changed_none C M x = ap (λ (b : Bool). record { key = x.key; stored = record { session = x.stored.session; durable = b } }) (flag x.stored.durable)
  where
    flag : (d : Bool) → (d && true) ≡ d
    flag true = refl
    flag false = refl

-- ---- the loops: all the changes, and those still to come

module _ (version max : ℕ) where
  pub record Making (all : List Change) (w₀ b₀ w b : List ℕ) (left : List Change) : Type 0 where
    pub words : length w ≡ length w₀
    pub bytes : length b ≡ length b₀
    pub follow : fits (next_out_of w) left ≡ true
    pub made : (C : ℕ) → length b₀ ≡ 224 + C → on_stored (changed C max left) (place_in C max w b) ≡ on_stored (changed C max all) (place_in C max w₀ b₀)

  pub making : (all left : List Change) (w b : List ℕ) → left ≡ all → fits (next_out_of w) all ≡ true → Making all w b w b left
  making all left w b is h = record {
    words = refl;
    bytes = refl;
    follow = ap (fits (next_out_of w)) is ∙ h;
    made = λ C e. ap (λ (l : List Change). on_stored (changed C max l) (place_in C max w b)) is;
  }

  -- those at the front of what is still to come are made
  module _ {all left : List Change} {w₀ b₀ w b : List ℕ} (cs left' : List Change) (g : Making all w₀ b₀ w b left) (e : left ≡ cs ++ left') where
    whole : fits (next_out_of w) (cs ++ left') ≡ true
    whole = ap (fits (next_out_of w)) (sym e) ∙ g.follow

    pub front_fits : fits (next_out_of w) cs ≡ true
    front_fits = fits_front (next_out_of w) cs left' whole

    pub made_on : {w' b' : List ℕ} → length w' ≡ length w → length b' ≡ length b → 224 ≤ length b₀
        → ((C : ℕ) → length b ≡ 224 + C → place_in C max w' b' ≡ on_stored (changed C max cs) (place_in C max w b)) → Making all w₀ b₀ w' b' left'
    made_on {w'} {b'} lw lb long did =
        let D : ℕ = length b₀ - 224 in
        let size : length b ≡ 224 + D = omega (arith, g.bytes, long) in
        let next : next_out_of w' ≡ (apply_all D max cs (place_in D max w b).stored.session).next_out =
        sym (next_out_lem D max w' b') ∙ ap (λ (x : Place). x.stored.session.next_out) (did D size) in
        record {
          words = lw ∙ g.words;
          bytes = lb ∙ g.bytes;
          follow =
              ap (λ (n : ℕ). fits n left') next
              ∙ fits_behind D max (place_in D max w b).stored.session cs left' (ap (λ (n : ℕ). fits n (cs ++ left')) (next_out_lem D max w b) ∙ whole);
          made = λ C h.
              ap (on_stored (changed C max left')) (did C (g.bytes ∙ h))
              ∙ changed_append C max cs left' (place_in C max w b)
              ∙ ap (λ (l : List Change). on_stored (changed C max l) (place_in C max w b)) (sym e)
              ∙ g.made C h;
        }

  pub all_made : {all left : List Change} {w₀ b₀ w b : List ℕ} → Making all w₀ b₀ w b left → left ≡ []
      → (C : ℕ) → length b₀ ≡ 224 + C → place_in C max w b ≡ on_stored (changed C max all) (place_in C max w₀ b₀)
  all_made {w = w} {b = b} g none C h =
      sym (changed_none C max (place_in C max w b)) ∙ ap (λ (l : List Change). on_stored (changed C max l) (place_in C max w b)) (sym none) ∙ g.made C h

  -- each change of those still to come was read
  pub first_taken : {left left' : List Change} (c : Change) → Each (TakenChange version) left → left ≡ c ∷ left' → (fine_change version c ≡ true) × Each (TakenChange version) left'
  first_taken {left} {left'} c t e = by (subst (Each (TakenChange version)) e t)
    where
      by : Each (TakenChange version) (c ∷ left') → (fine_change version c ≡ true) × Each (TakenChange version) left'
      by x = (x.0.0.1, x.1)
