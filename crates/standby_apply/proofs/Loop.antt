-- Making the changes of a run one after the other: those left, made from here, are all made from the start. Assumes nothing.
use mathlib.Core.Path.{◌≡◌, refl, sym, ap, subst, ◌∙◌}
use mathlib.Core.Bool.{Bool, true, false, ◌&&◌}
use mathlib.Core.List.{List, [], ◌∷◌}
use Prim.Native.Nat.{ℕ, suc, ◌+◌, ◌-◌, ◌≤◌}
use native.Mathlib.Omega.{arith}
use lib.Dec.{T, leb, ltb, eqb}
use lib.ListN.{length}
use Rattle.model_text.proofs.Formed.{and_l, and_r}
use Rattle.model_frame.specs.Bytes.{is_bytes}
use Rattle.model_frame.specs.Frame.{Change, set_incoming, set_incoming_in_flight, set_in_flight, record_msg, record_bare, reset, set_created_at, set_marks, Fault}
use Rattle.model_frame.specs.Parse.{is_empty, ok, bad}
use Rattle.model_frame.specs.Reading.{read_change}
use Rattle.model_frame.specs.Writing.{fine_change}
use Rattle.model_frame.proofs.SoundChange.{change_sound}
use Rattle.model_session.specs.Session.{Session, fits, apply, apply_all, top}
use Rattle.model_standby.specs.Store.{Place, on_stored, changed}
use Rattle.frame_op.specs.Answers.{held_run}
use Rattle.standby_changes.proofs.Held.{held_bad, held_more}
use Rattle.store_place.specs.Place.{next_out_of, session_of, place_in}

-- changes that fit go on to fit after the first of them is made
fits_on : (C M : ℕ) (s : Session) (c : Change) (cs : List Change) → fits s.next_out (c ∷ cs) ≡ true → fits (apply C M c s).next_out cs ≡ true
unfolding apply
fits_on C M s (set_incoming n) cs h = h
fits_on C M s (set_incoming_in_flight n f) cs h = h
fits_on C M s (set_in_flight f) cs h = h
fits_on C M s (record_msg q w) cs h = and_r (eqb q s.next_out && ltb q top) (fits (suc q) cs) h
fits_on C M s (record_bare q) cs h = and_r (leb s.next_out q && ltb q top) (fits (suc q) cs) h
fits_on C M s reset cs h = h
fits_on C M s (set_created_at t) cs h = h
fits_on C M s (set_marks m) cs h = h

-- the first of changes that fit fits alone
fits_first : (next : ℕ) (c : Change) (cs : List Change) → fits next (c ∷ cs) ≡ true → fits next (c ∷ []) ≡ true
fits_first next (set_incoming n) cs h = refl
fits_first next (set_incoming_in_flight n f) cs h = refl
fits_first next (set_in_flight f) cs h = refl
fits_first next (record_msg q w) cs h = ap (λ (b : Bool). b && true) (and_l (eqb q next && ltb q top) (fits (suc q) cs) h)
fits_first next (record_bare q) cs h = ap (λ (b : Bool). b && true) (and_l (leb next q && ltb q top) (fits (suc q) cs) h)
fits_first next reset cs h = refl
fits_first next (set_created_at t) cs h = refl
fits_first next (set_marks m) cs h = refl

-- one change and then the others are all of them
changed_on : (C M : ℕ) (c : Change) (cs : List Change) (x : Place) → on_stored (changed C M cs) (on_stored (changed C M (c ∷ [])) x) ≡ on_stored (changed C M (c ∷ cs)) x
changed_on C M c cs x = ap (λ (b : Bool). record { key = x.key; stored = record { session = apply_all C M cs (apply C M c x.stored.session); durable = b } }) (flag x.stored.durable (is_empty cs))
  where
    flag : (d e : Bool) → ((d && false) && e) ≡ (d && false)
    flag true e = refl
    flag false e = refl

changed_none : (C M : ℕ) (x : Place) → on_stored (changed C M []) x ≡ x
changed_none C M x = ap (λ (b : Bool). record { key = x.key; stored = record { session = x.stored.session; durable = b } }) (flag x.stored.durable)
  where
    flag : (d : Bool) → (d && true) ≡ d
    flag true = refl
    flag false = refl

pub next_out_lem : (C M : ℕ) (w b : List ℕ) → (place_in C M w b).stored.session.next_out ≡ next_out_of w
unfolding place_in session_of
next_out_lem C M w b = refl

module _ (version max : ℕ) where
  pub record Applying (run w₀ b₀ w b rest : List ℕ) : Type 0 where
    pub words : length w ≡ length w₀
    pub bytes : length b ≡ length b₀
    pub octets : T (is_bytes rest)
    pub follow : fits (next_out_of w) (held_run version rest) ≡ true
    pub made : (C : ℕ) → length b₀ ≡ 224 + C → on_stored (changed C max (held_run version rest)) (place_in C max w b) ≡ on_stored (changed C max (held_run version run)) (place_in C max w₀ b₀)

  pub starts : (run w b : List ℕ) → T (is_bytes run) → fits (next_out_of w) (held_run version run) ≡ true → Applying run w b w b run
  starts run w b octets h = record { words = refl; bytes = refl; octets = octets; follow = h; made = λ C e. refl }

  module _ {run w₀ b₀ w b rest t : List ℕ} {c : Change} (g : Applying run w₀ b₀ w b rest) (e : read_change version rest ≡ ok c t) where
    whole : fits (next_out_of w) (c ∷ held_run version t) ≡ true
    whole = subst (λ (l : List Change). fits (next_out_of w) l ≡ true) (held_more version rest g.octets e) g.follow

    -- what `apply` asks
    pub first_fine : fine_change version c ≡ true
    first_fine = (change_sound version rest g.octets e).1.0.1

    pub first_fits : fits (next_out_of w) (c ∷ []) ≡ true
    first_fits = fits_first (next_out_of w) c (held_run version t) whole

    pub goes_on : {w' b' : List ℕ} → length w' ≡ length w → length b' ≡ length b → 224 ≤ length b₀
        → ((C : ℕ) → length b ≡ 224 + C → place_in C max w' b' ≡ on_stored (changed C max (c ∷ [])) (place_in C max w b)) → Applying run w₀ b₀ w' b' t
    goes_on {w'} {b'} lw lb long did =
        let D : ℕ = length b₀ - 224 in
        let size : length b ≡ 224 + D = omega (arith, g.bytes) in
        let next : next_out_of w' ≡ (apply D max c (place_in D max w b).stored.session).next_out =
        sym (next_out_lem D max w' b') ∙ ap (λ (x : Place). x.stored.session.next_out) (did D size) in
        record {
          words = lw ∙ g.words;
          bytes = lb ∙ g.bytes;
          octets = (change_sound version rest g.octets e).2;
          follow =
              subst (λ (n : ℕ). fits n (held_run version t) ≡ true) (sym next)
              (fits_on D max (place_in D max w b).stored.session c (held_run version t) (subst (λ (n : ℕ). fits n (c ∷ held_run version t) ≡ true) (sym (next_out_lem D max w b)) whole));
          made = λ C h.
              ap (on_stored (changed C max (held_run version t))) (did C (g.bytes ∙ h))
              ∙ changed_on C max c (held_run version t) (place_in C max w b)
              ∙ ap (λ (l : List Change). on_stored (changed C max l) (place_in C max w b)) (sym (held_more version rest g.octets e))
              ∙ g.made C h;
        }

  all_made : {run w₀ b₀ w b rest : List ℕ} → Applying run w₀ b₀ w b rest → held_run version rest ≡ []
      → (C : ℕ) → length b₀ ≡ 224 + C → place_in C max w b ≡ on_stored (changed C max (held_run version run)) (place_in C max w₀ b₀)
  all_made {w = w} {b = b} g none C h =
      sym (changed_none C max (place_in C max w b)) ∙ ap (λ (l : List Change). on_stored (changed C max l) (place_in C max w b)) (sym none) ∙ g.made C h

  pub made_bad : {run w₀ b₀ w b rest : List ℕ} {f : Fault} → Applying run w₀ b₀ w b rest → read_change version rest ≡ bad f
      → (C : ℕ) → length b₀ ≡ 224 + C → place_in C max w b ≡ on_stored (changed C max (held_run version run)) (place_in C max w₀ b₀)
  made_bad {rest = rest} g e = all_made g (held_bad version rest e)
