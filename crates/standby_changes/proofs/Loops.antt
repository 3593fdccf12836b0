-- The loops' invariants over what is left of a run, and what a turn of each does. Assumes nothing.
use mathlib.Core.Path.{◌≡◌, refl, sym, ap, subst, ◌∙◌}
use Rattle.std.specs.Prelude as prelude
use Rattle.std.specs.Prelude.{Some, None}
use mathlib.Core.Bool.{Bool, true, false, true≢false}
use mathlib.Core.List.{List, [], ◌∷◌}
use Prim.Native.Nat.{ℕ, ◌+◌, ◌-◌, ◌≤◌, ◌<◌}
use native.Mathlib.Omega.{arith}
use lib.Dec.{T}
use lib.ListN.{length}
use Rattle.model_frame.specs.Bytes.{is_bytes}
use Rattle.model_frame.specs.Frame.{Change, Fault}
use Rattle.model_frame.specs.Parse.{Res, ok, bad, read_bytes, read_num, read_blob, forget}
use Rattle.model_frame.specs.Reading.{record_msg_fields, read_change}
use Rattle.model_frame.specs.Sizes.{sizes}
use Rattle.model_frame.proofs.Runs.{change_shorter}
use Rattle.model_frame.proofs.SoundChange.{change_sound}
use Rattle.model_session.specs.Session.{fits, message_length, message_bytes}
use Rattle.frame_op.specs.Answers.{held_run}
use Rattle.standby_changes.specs.Held.{fits_from}
use Rattle.standby_changes.proofs.Held.{held_bad, held_more, held_messages}

-- whether something was read, and what is left then
abbrev reads : {A : Type 0} → Res A → Bool
reads (ok a s) = true
reads (bad e) = false

abbrev remains : {A : Type 0} → Res A → List ℕ
remains (ok a s) = s
remains (bad e) = []

module _ (version : ℕ) where
  -- ---- the message bytes: those so far and those of what is left are all

  pub record Summing (run : List ℕ) (sum : ℕ) (rest : List ℕ) : Type 0 where
    pub octets : T (is_bytes rest)
    pub total : sum + message_bytes (held_run version rest) ≡ message_bytes (held_run version run)
    pub small : message_bytes (held_run version run) ≤ length run

  pub summing : (run : List ℕ) → T (is_bytes run) → Summing run 0 run
  summing run h = record { octets = h; total = omega arith; small = held_messages version run h }

  module _ {run rest t : List ℕ} {sum n : ℕ} {c : Change} (w : Summing run sum rest) (e : read_change version rest ≡ ok c t) (size : n ≡ message_length c) where
    one : message_bytes (held_run version rest) ≡ message_length c + message_bytes (held_run version t)
    one = ap message_bytes (held_more version rest w.octets e)

    pub summed : Summing run (sum + n) t
    summed = record { octets = (change_sound version rest w.octets e).2; total = omega (arith, w.total, one); small = w.small }

    pub sum_fits : sum + n ≤ length run
    sum_fits = omega (arith, w.total, w.small, one)

  -- what is left has no more changes
  summed_all : {run rest : List ℕ} {sum : ℕ} → Summing run sum rest → held_run version rest ≡ [] → sum ≡ message_bytes (held_run version run)
  summed_all w e = omega (arith, w.total, ap message_bytes e)

  pub sum_bad : {run rest : List ℕ} {sum : ℕ} {f : Fault} → Summing run sum rest → read_change version rest ≡ bad f → sum ≡ message_bytes (held_run version run)
  sum_bad {rest = rest} w e = summed_all w (held_bad version rest e)

  -- ---- the outgoing numbers: what is left fits the next number if all fits the first

  pub record Fitting (run : List ℕ) (first next : ℕ) (rest : List ℕ) : Type 0 where
    pub octets : T (is_bytes rest)
    pub same : fits first (held_run version run) ≡ fits next (held_run version rest)

  pub fitting : (run : List ℕ) (first : ℕ) → T (is_bytes run) → Fitting run first first run
  fitting run first h = record { octets = h; same = refl }

  module _ {run rest t : List ℕ} {first next : ℕ} {c : Change} (o : prelude.Option ℕ) (w : Fitting run first next rest) (e : read_change version rest ≡ ok c t)
      (follows : (cs : List Change) → fits_from o cs ≡ fits next (c ∷ cs)) where
    turn : fits first (held_run version run) ≡ fits_from o (held_run version t)
    turn = w.same ∙ ap (fits next) (held_more version rest w.octets e) ∙ sym (follows (held_run version t))

    pub fit_next : {n : ℕ} → o ≡ Some n → Fitting run first n t
    fit_next is = record { octets = (change_sound version rest w.octets e).2; same = turn ∙ ap (λ (o : prelude.Option ℕ). fits_from o (held_run version t)) is }

    pub fit_off : o ≡ None → false ≡ fits first (held_run version run)
    fit_off is = sym (turn ∙ ap (λ (o : prelude.Option ℕ). fits_from o (held_run version t)) is)

  fits_all : {run rest : List ℕ} {first next : ℕ} → Fitting run first next rest → held_run version rest ≡ [] → true ≡ fits first (held_run version run)
  fits_all {next = next} w e = sym (w.same ∙ ap (fits next) e)

  pub fit_bad : {run rest : List ℕ} {first next : ℕ} {f : Fault} → Fitting run first next rest → read_change version rest ≡ bad f → true ≡ fits first (held_run version run)
  fit_bad {rest = rest} w e = fits_all w (held_bad version rest e)

  -- ---- the end of a run: the bytes of what is left and those passed are all

  pub record Ending (run : List ℕ) (left : ℕ) (rest : List ℕ) : Type 0 where
    pub octets : T (is_bytes rest)
    pub size : left ≡ length rest
    pub passed : sizes (held_run version rest) + length run ≡ sizes (held_run version run) + left
    pub within : left ≤ length run

  pub ending : (run : List ℕ) → T (is_bytes run) → Ending run (length run) run
  ending run h = record { octets = h; size = refl; passed = refl; within = omega arith }

  module _ {run rest : List ℕ} {left : ℕ} (w : Ending run left rest) where
    end_next : {c : Change} {t : List ℕ} → read_change version rest ≡ ok c t → Ending run (length t) t
    end_next {c} {t} e =
        let one = ap sizes (held_more version rest w.octets e) in
        let less = change_shorter version rest w.octets e in
        record { octets = (change_sound version rest w.octets e).2; size = refl; passed = omega (arith, w.passed, w.size, one, less.0); within = omega (arith, w.within, w.size, less.1) }

    pub end_past : {t : List ℕ} {left' : ℕ} → forget (read_change version rest) ≡ ok tt t → left' ≡ length t → Ending run left' t
    end_past {t} {left'} e size = go (read_change version rest) refl e
      where
        go : (r : Res Change) → read_change version rest ≡ r → forget r ≡ ok tt t → Ending run left' t
        go (ok c s) p q = subst (λ (n : ℕ). Ending run n t) (sym size) (end_next (p ∙ ap (ok c) (ap remains q)))
        go (bad f) p q = absurd (true≢false (sym (ap reads q)))

    pub end_less : {t : List ℕ} → forget (read_change version rest) ≡ ok tt t → length t < length rest
    end_less {t} e = go (read_change version rest) refl e
      where
        go : (r : Res Change) → read_change version rest ≡ r → forget r ≡ ok tt t → length t < length rest
        go (ok c s) p q = (change_shorter version rest w.octets (p ∙ ap (ok c) (ap remains q))).1
        go (bad f) p q = absurd (true≢false (sym (ap reads q)))

    pub end_bad : {f : Fault} → forget (read_change version rest) ≡ bad f → length run - left ≡ sizes (held_run version run)
    end_bad {f} e = go (read_change version rest) refl e
      where
        go : (r : Res Change) → read_change version rest ≡ r → forget r ≡ bad f → length run - left ≡ sizes (held_run version run)
        go (ok c s) p q = absurd (true≢false (ap reads q))
        go (bad g) p q = omega (arith, w.passed, w.within, ap sizes (held_bad version rest p))

-- a Record with a message of len bytes is read: its tag, its number, its message's length and as many bytes
pub record_there : (version : ℕ) (s : List ℕ) {s₁ s₂ s₃ s₄ w : List ℕ} {k q n len : ℕ} → read_num 1 s ≡ ok k s₁ → k ≡ 4 → read_num 8 s₁ ≡ ok q s₂ → read_num 4 s₂ ≡ ok n s₃ → n ≡ len → read_bytes len s₃ ≡ ok w s₄
    → forget (read_change version s) ≡ ok tt s₄
unfolding read_change record_msg_fields read_blob
record_there version s tag is-4 number size is-len message = rw (tag, is-4, number, size, is-len, message)
