-- A row of at least S places never gives 21: a full row whose handles have places of their own below S, none of them p, has fewer than S places.
-- Assumes nothing.
use mathlib.Core.Path.{◌≡◌, refl, sym, ap, ◌∙◌}
use Prim.Native.Nat.{ℕ, zero, suc, ◌+◌, ◌≤◌, ◌<◌}
use native.Mathlib.Omega.{arith}
use native.Mathlib.Nat.{eq-or-lt_of_le}
use mathlib.Core.Logic.{◌⊎◌, inl, inr}
use mathlib.Core.List.{List, [], ◌∷◌, ◌++◌}
use mathlib.Core.Option.{Option, none, some}
use mathlib.Core.Bool.{Bool, true, false, cond, not, ◌&&◌, ◌||◌}
use lib.ListN.{length}
use lib.Dec.{T, ltb, eqb, ltb→lt}
use Rattle.model_text.specs.Version.{is_version}
use Rattle.model_frame.specs.Frame.{Key, Change, Part, commit, whole, last_whole, AppRecord, Fault, too_long, truncated, unknown, bad_text, bad_session, bad_timestamp, bad_marks, fault_number, Frame, hello, welcome, bind, batch, ack, nack, bound, checked, Decoded, more, faulty, got}
use Rattle.model_frame.specs.Parse.{is_empty, Each}
use Rattle.model_frame.specs.Reading.{decode}
use Rattle.model_frame.specs.Sizes.{sizes}
use Rattle.model_session.specs.Session.{suits, fits}
use Rattle.model_session.proofs.Basics.{true→T, eqb_true, eqb_sound, cond_cases, true≢false}
use Rattle.model_standby.specs.Answer.{Given, damaged, intact, judged, given, Answer, reply, refused, done}
use Rattle.model_standby.specs.Row.{Row, Used, is_some, has_free, find}
use Rattle.model_standby.specs.Store.{place_of, is_stored, session_at, or_new}
use Rattle.model_standby.specs.State.{Settings, incarnation_of, Bound, Standby, Result, Call, on_frame_held, on_frame, flush, disconnected_from, promote, promote_unchecked, at_epoch, none_held}
use Rattle.model_standby.specs.Handles.{names_place, apart, without_others, room_at}
use Rattle.model_standby.specs.Standby.{with_counters, run_pending, due, on_hello, on_bind, on_checked, follows, raised, max_whole, starts_with_reset, settle, hold, on_part, on_handle, on_batch, on_intact, on_given, step}
use Rattle.model_standby.specs.OneHandle.{RowRules}
use Rattle.model_standby.proofs.Rows.{used_map}
use Rattle.model_standby.proofs.Handles.{eqb_other, HeadApart, head_apart, others_clear, all_others, others_apart, used_others, others_length}
use Rattle.model_standby.proofs.Places.{place_low, pending_length}

-- ---- how many taken places of a row name a session place

abbrev named : ℕ → Row Bound → ℕ
named p [] = 0
named p (none ∷ t) = named p t
named p (some e ∷ t) = cond (eqb p e.1.place) 1 0 + named p t

-- of all session places below m
abbrev named_below : ℕ → Row Bound → ℕ
named_below zero t = 0
named_below (suc m) t = named m t + named_below m t

below : (a b : ℕ) → a ≤ b → eqb a b ≡ false → a < b
below a b h q = go (eq-or-lt_of_le h)
  where
    go : (a ≡ b) ⊎ (a < b) → a < b
    go (inl u) = absurd (true≢false (sym (eqb_true a) ∙ ap (eqb a) u ∙ q))
    go (inr u) = u

unnamed : (p : ℕ) (t : Row Bound) → names_place p t ≡ false → named p t ≡ 0
unnamed p [] n = refl
unnamed p (none ∷ t) n = unnamed p t n
unnamed p (some e ∷ t) n = go (eqb p e.1.place) n (unnamed p t)
  where
    go : (b : Bool) → (b || names_place p t) ≡ false → (names_place p t ≡ false → named p t ≡ 0) → cond {A = ℕ} b 1 0 + named p t ≡ 0
    go true q ih = absurd (true≢false q)
    go false q ih = omega (arith, ih q)

named_once : (p : ℕ) (t : Row Bound) → apart t ≡ true → named p t ≤ 1
named_once p [] a = omega arith
named_once p (none ∷ t) a = named_once p t a
named_once p (some e ∷ t) a = go (eqb p e.1.place) refl (named_once p t z.rest)
  where
    z : HeadApart e t
    z = head_apart e t a

    go : (b : Bool) → eqb p e.1.place ≡ b → named p t ≤ 1 → cond {A = ℕ} b 1 0 + named p t ≤ 1
    go true q ih =
        let n : named p t ≡ 0 = unnamed p t (ap (λ (x : ℕ). names_place x t) (eqb_sound p e.1.place q) ∙ z.other_place) in
        omega (arith, n)
    go false q ih = omega (arith, ih)

-- session places below m, each named once at most, and p not at all
fewer : (m p : ℕ) (t : Row Bound) → apart t ≡ true → p < m → named p t ≡ 0 → named_below m t < m
fewer zero p t a h n = absurd (omega arith)
fewer (suc m) p t a h n = go (eqb p m) refl (λ u. fewer m p t a u n)
  where
    at_most : (k : ℕ) → named_below k t ≤ k
    at_most zero = omega arith
    at_most (suc k) = omega (arith, at_most k, named_once k t a)

    go : (b : Bool) → eqb p m ≡ b → (p < m → named_below m t < m) → named m t + named_below m t < suc m
    go true q ih =
        let same : named m t ≡ 0 = ap (λ (x : ℕ). named x t) (sym (eqb_sound p m q)) ∙ n in
        omega (arith, same, at_most m)
    go false q ih = omega (arith, ih (below p m (omega arith) q), named_once m t a)

-- ---- a row whose taken places name session places below m

named_none : (m : ℕ) (t : Row Bound) → named_below m (none ∷ t) ≡ named_below m t
named_none zero t = refl
named_none (suc m) t = ap (λ (n : ℕ). named m t + n) (named_none m t)

named_past : (m : ℕ) (e : ℕ × Bound) (t : Row Bound) → m ≤ e.1.place → named_below m (some e ∷ t) ≡ named_below m t
named_past zero e t h = refl
named_past (suc m) e t h = go (eqb m e.1.place) refl (named_past m e t (omega arith))
  where
    go : (b : Bool) → eqb m e.1.place ≡ b → named_below m (some e ∷ t) ≡ named_below m t → (cond {A = ℕ} b 1 0 + named m t) + named_below m (some e ∷ t) ≡ named m t + named_below m t
    go true q ih = absurd (omega (arith, h, eqb_sound m e.1.place q))
    go false q ih = omega (arith, ih)

named_here : (m : ℕ) (e : ℕ × Bound) (t : Row Bound) → e.1.place < m → named_below m (some e ∷ t) ≡ suc (named_below m t)
named_here zero e t h = absurd (omega arith)
named_here (suc m) e t h = go (eqb m e.1.place) refl (named_here m e t)
  where
    go : (b : Bool) → eqb m e.1.place ≡ b → (e.1.place < m → named_below m (some e ∷ t) ≡ suc (named_below m t))
        → (cond {A = ℕ} b 1 0 + named m t) + named_below m (some e ∷ t) ≡ suc (named m t + named_below m t)
    go true q ih = omega (arith, named_past m e t (omega (arith, eqb_sound m e.1.place q)))
    go false q ih = omega (arith, ih (below e.1.place m (omega arith) (eqb_other m e.1.place q)))

-- full: each place is taken
all_named : (m : ℕ) (t : Row Bound) → has_free t ≡ false → Each (Used (λ (b : Bound). b.place < m)) t → length t ≡ named_below m t
all_named m [] f u = go m
  where
    go : (m : ℕ) → 0 ≡ named_below m []
    go zero = refl
    go (suc m) = omega (arith, go m)
all_named m (none ∷ t) f u = absurd (true≢false f)
all_named m (some e ∷ t) f u = omega (arith, all_named m t f u.1, named_here m e t u.0)

-- ---- a row with S places has room for each Bind that passes 20

few_places : (m p : ℕ) (t : Row Bound) → apart t ≡ true → has_free t ≡ false → Each (Used (λ (b : Bound). b.place < m)) t → p < m → names_place p t ≡ false → length t < m
few_places m p t a f u h n = omega (arith, all_named m t f u, fewer m p t a h (unnamed p t n))

neither : {A : Type 0} (o : Option A) (b : Bool) → (is_some o || b) ≡ false → (o ≡ none) × (b ≡ false)
neither none b p = (refl, p)
neither (some x) b p = absurd (true≢false p)

has_place : (m h p : ℕ) (t : Row Bound) → apart t ≡ true → Each (Used (λ (b : Bound). b.place < m)) t → p < m → m ≤ length t → room_at h t p ≡ true
has_place m h p t a u low long = go (room_at h t p) refl
  where
    go : (b : Bool) → room_at h t p ≡ b → b ≡ true
    go true q = refl
    go false q =
        let z = neither (find h (without_others h p t)) (has_free (without_others h p t)) q in
        let few = few_places m p (without_others h p t) (others_apart h p t a) z.1 (used_others (λ (b : Bound). b.place < m) h p t u) low
        (sym (all_others h p (without_others h p t) z.0) ∙ others_clear h p t) in
        absurd (omega (arith, few, others_length h p t))

-- ---- no call is answered 21

abbrev is_21 : Answer → Bool
is_21 (reply f) = false
is_21 (refused n) = eqb n 21
is_21 done = false

abbrev Not21 : Result → Type 0
Not21 r = is_21 r.answer ≡ false

module _ (L : Settings) where
  hello_not : (s : Standby) (v e : ℕ) (kinds : List ℕ) → Not21 (on_hello L s v e kinds)
  unfolding on_hello
  hello_not s v e kinds =
      cond_cases Not21 (not (is_version v)) (λ _. refl) (λ _. cond_cases Not21 (not (is_empty kinds)) (λ _. refl) (λ _. cond_cases Not21 (ltb e s.counters.epoch) (λ _. refl) (λ _. refl)))

  checked_not : (s : Standby) (h e i : ℕ) → Not21 (on_checked L s h e i)
  unfolding on_checked
  checked_not s h e i = cond_cases Not21 (ltb e s.counters.epoch) (λ _. refl) (λ _. cond_cases Not21 (not (eqb i (incarnation_of L))) (λ _. refl) (λ _. refl))

  settle_not : (s : Standby) (h : ℕ) (b : Bound) (n : ℕ) (cs : List Change) → Not21 (settle L s h b n cs)
  unfolding settle
  settle_not s h b n cs = cond_cases Not21 (fits (or_new (session_at s.places b.place)).next_out cs) (λ _. refl) (λ _. refl)

  hold_not : (s : Standby) (h : ℕ) (b : Bound) (cs : List Change) (go : Result) → Not21 go → Not21 (hold L s h b cs go)
  unfolding hold
  hold_not s h b cs go p =
      cond_cases Not21 (is_empty b.held && not (starts_with_reset cs)) (λ _. refl)
      (λ _. cond_cases Not21 (ltb max_whole (raised b cs)) (λ _. refl) (λ _. cond_cases Not21 (ltb L.room (sizes (b.held ++ cs))) (λ _. refl) (λ _. p)))

  part_not : (s : Standby) (h : ℕ) (b : Bound) (n : ℕ) (p : Part) (cs : List Change) → Not21 (on_part L s h b n p cs)
  unfolding on_part
  part_not s h b n commit cs = cond_cases Not21 (not (is_empty b.held)) (λ _. refl) (λ _. settle_not s h b n cs)
  part_not s h b n whole cs = hold_not s h b cs _ refl
  part_not s h b n last_whole cs = hold_not s h b cs _ (settle_not s h (none_held b) n (b.held ++ cs))

  handle_not : (s : Standby) (h : ℕ) (o : Option Bound) (n : ℕ) (p : Part) (cs : List Change) → Not21 (on_handle L s h o n p cs)
  unfolding on_handle
  handle_not s h none n p cs = refl
  handle_not s h (some b) n p cs = cond_cases Not21 (follows b n) (λ _. part_not s h b n p cs) (λ _. refl)

  batch_not : (s : Standby) (h e n : ℕ) (p : Part) (cs : List Change) (apps : List AppRecord) → Not21 (on_batch L s h e n p cs apps)
  unfolding on_batch
  batch_not s h e n p cs apps =
      cond_cases Not21 (not (is_empty apps)) (λ _. refl)
      (λ _. cond_cases Not21 (ltb e s.counters.epoch) (λ _. refl) (λ _. handle_not (with_counters s (at_epoch e s.counters)) h (find h s.handles) n p cs))

  bind_not : (s : Standby) (h e lag : ℕ) (k : Key) → RowRules L s → L.S ≤ length s.handles → Not21 (on_bind L s h e lag k)
  unfolding on_bind
  bind_not s h e lag k r long =
      cond_cases Not21 (ltb e s.counters.epoch) (λ _. refl)
      (λ _. cond_cases Not21 (ltb L.lag lag) (λ _. refl)
      (λ _. cond_cases Not21 (not (suits s.counters.version (or_new (session_at s.places (place_of k s.places))).stamp)) (λ _. refl)
      (λ _. cond_cases Not21 (not (is_stored k s.places || ltb (length s.places) L.S)) (λ _. refl)
      (λ u. cond_cases Not21 (not (room_at h s.handles (place_of k s.places))) (λ t. absurd (full (room_at h s.handles (place_of k s.places)) (room u) t)) (λ _. refl)))))
    where
      full : (b : Bool) → b ≡ true → T (not b) → ⊥
      full b p t = go b p t
        where
          go : (b : Bool) → b ≡ true → T (not b) → ⊥
          go true p t = t
          go false p t = true≢false (sym p)

      low : (a b : Bool) → is_stored k s.places ≡ a → ltb (length s.places) L.S ≡ b → T (not (not (a || b))) → place_of k s.places < L.S
      low true b p q t = omega (arith, ltb→lt (place_of k s.places) (length s.places) (true→T _ p), r.places_few)
      low false true p q t = omega (arith, ltb→lt (length s.places) L.S (true→T _ q), place_low k s.places)
      low false false p q t = absurd t

      room : T (not (not (is_stored k s.places || ltb (length s.places) L.S))) → room_at h s.handles (place_of k s.places) ≡ true
      room t =
          has_place L.S h (place_of k s.places) s.handles r.row_apart
          (used_map (λ (b : Bound). b.place < length s.places) (λ (b : Bound). b.place < L.S) (λ b o. omega (arith, o, r.places_few)) s.handles r.handles_there)
          (low (is_stored k s.places) (ltb (length s.places) L.S) refl refl t) long

  intact_not : (s : Standby) (f : Frame) → RowRules L s → L.S ≤ length s.handles → Not21 (on_intact L s f)
  intact_not s (hello v e node kinds) r long = hello_not s v e kinds
  intact_not s (welcome e i) r long = refl
  intact_not s (bind h e lag k) r long = bind_not s h e lag k r long
  intact_not s (batch h e n p cs apps) r long = batch_not s h e n p cs apps
  intact_not s (ack h n) r long = refl
  intact_not s (nack h x) r long = refl
  intact_not s (bound h m) r long = refl
  intact_not s (checked h e i) r long = checked_not s h e i

  pub rules_pending : (now : Bool) (s : Standby) → RowRules L s → RowRules L (run_pending now s)
  rules_pending now s r =
      record {
        places_few = omega (arith, pending_length now s, r.places_few);
        handles_there = used_map (λ (b : Bound). b.place < length s.places) (λ (b : Bound). b.place < length (run_pending now s).places) (λ b o. omega (arith, o, pending_length now s)) s.handles r.handles_there;
        row_apart = r.row_apart;
      }

  -- what the reader refuses with
  fault_not : (e : Fault) → eqb (fault_number e) 21 ≡ false
  fault_not (too_long n) = refl
  fault_not truncated = refl
  fault_not (unknown f n) = refl
  fault_not bad_text = refl
  fault_not bad_session = refl
  fault_not bad_timestamp = refl
  fault_not bad_marks = refl

  abbrev Fair : Given → Type 0
  Fair (damaged n) = eqb n 21 ≡ false
  Fair (intact f) = Unit {0}

  fair : (version : ℕ) (w : List ℕ) → Fair (given version w)
  unfolding given
  fair version w = go (decode version w)
    where
      go : (d : Decoded) → Fair (judged (length w) d)
      go more = refl
      go (faulty e) = fault_not e
      go (got f used) = cond_cases Fair (eqb used (length w)) (λ _. tt) (λ _. refl)

  given_not : (s : Standby) (g : Given) → Fair g → RowRules L s → L.S ≤ length s.handles → Not21 (on_given L s g)
  unfolding on_given
  given_not s (damaged n) o r long = o
  given_not s (intact f) o r long =
      cond_cases Not21 s.counters.promoted (λ _. refl) (λ _. intact_not (run_pending (due s.pending f) s) f (rules_pending (due s.pending f) s r) long)

  step_not : (s : Standby) (c : Call) → RowRules L s → L.S ≤ length s.handles → Not21 (step L s c)
  unfolding step
  step_not s (on_frame_held w) r long = given_not s (given s.counters.version w) (fair s.counters.version w) r long
  step_not s (on_frame w) r long = given_not s (given s.counters.version w) (fair s.counters.version w) r long
  step_not s (flush n) r long = cond_cases Not21 (not (eqb n s.counters.connections) || s.counters.promoted) (λ _. refl) (λ _. refl)
  step_not s (disconnected_from n) r long = refl
  step_not s promote r long = cond_cases Not21 s.counters.checked (λ _. refl) (λ _. refl)
  step_not s promote_unchecked r long = refl

  -- a row of at least S places never gives 21
  pub never_21 : (s : Standby) (c : Call) → RowRules L s → L.S ≤ length s.handles → (step L s c).answer ≡ refused 21 → ⊥
  never_21 s c r long p = true≢false (sym (ap is_21 p) ∙ step_not s c r long)
