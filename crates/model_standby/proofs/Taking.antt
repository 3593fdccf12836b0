-- Demand 3, first part: a list of calls that hands in a prefix of A's frames, with asides, flushes and drops.
-- Assumes nothing.
use mathlib.Core.Path.{◌≡◌, refl, sym, ap, subst, ◌∙◌}
use Prim.Native.Nat.{ℕ, suc, ◌+◌, ◌≤◌, ◌<◌, min}
use native.Mathlib.Omega.{arith}
use native.Mathlib.Nat.{le_of_eq}
use mathlib.Core.List.{List, [], ◌∷◌, ◌++◌, append_assoc, append-nil, head-eq_of_cons-eq, tail-eq_of_cons-eq, nil≢cons}
use mathlib.Core.Option.{Option, none, some, map}
use mathlib.Core.Bool.{Bool, true, false, cond, not, ◌&&◌, ◌||◌}
use mathlib.Core.Logic.{◌⊎◌, inl, inr}
use lib.ListN.{length, get_elem?}
use lib.Dec.{ltb→lt, T, T_not, eqb, ltb}
use Rattle.model_frame.specs.Frame.{Change, set_incoming, set_incoming_in_flight, set_in_flight, record_msg, record_bare, reset, set_created_at, set_marks, Part, whole, last_whole, Frame, batch, ack}
use Rattle.model_frame.specs.Parse.{is_empty, Each}
use Rattle.model_frame.specs.Writing.{encode, Writable}
use Rattle.model_frame.specs.Sizes.{sizes}
use Rattle.model_frame.proofs.RoundTrip.{decode_alone}
use Rattle.model_frame.proofs.Runs.{sizes_append}
use Rattle.model_session.specs.Session.{Session, apply_all, fits, message_bytes, top, Holdable}
use Rattle.model_session.specs.Whole.{all_changes, frames_of, hold_length}
use Rattle.model_session.proofs.Basics.{true→T, and_true, cond_cases, cond-true, cond-false, eqb_true, ltb_true, ltb_false, none≢some}
use Rattle.model_session.proofs.Sending.{whole_changes, apply_whole, fits_whole, sizes_whole, bytes_whole, message_bytes_append}
use Rattle.model_standby.specs.Answer.{Given, damaged, intact, judged, given, Answer, reply, refused, done, accepted, lower, is_reply}
use Rattle.model_standby.specs.Row.{Row, find, put}
use Rattle.model_standby.specs.Store.{Place, on_stored, session_at, or_new, changed}
use Rattle.model_standby.specs.State.{Settings, Bound, Standby, Result, Call, flush, disconnected_from, at_epoch, none_held}
use Rattle.model_standby.specs.Standby.{with_counters, with_handle, unbound, run_pending, due, says, refuse, held_sum, raised, max_whole, starts_with_reset, applied, settle, hold, on_part, on_handle, on_batch, on_intact, on_given, step, run}
use Rattle.model_standby.specs.Demand.{is_outside, Hands, by_held, by_frame, Aside, is_lower, refused_outside, FirstList, list_ends, ours_next, aside_next, flush_next, drop_next, model_took_last, ModelAllTaken}
use Rattle.model_standby.proofs.Outcomes.{Batches, refuses, clears, raises, holds, applies, diverges, Does, turns, tells, nacks, greets, binds, checks, batches, does}
use Rattle.model_standby.proofs.Rows.{find_freed, find_put_found}
use Rattle.model_standby.proofs.Places.{at_on_same, pending_session}

-- ---- what asides and commits leave as it was

record Same (s s₁ : Standby) : Type 0 where
  epoch : s₁.counters.epoch ≡ s.counters.epoch
  connections : s₁.counters.connections ≡ s.counters.connections
  promoted : s₁.counters.promoted ≡ s.counters.promoted
  version : s₁.counters.version ≡ s.counters.version
  handles : s₁.handles ≡ s.handles
  sessions : (n : ℕ) → session_at s₁.places n ≡ session_at s.places n

same_refl : (s : Standby) → Same s s
same_refl s = record { epoch = refl; connections = refl; promoted = refl; version = refl; handles = refl; sessions = λ _. refl }

same_pending : (w : Bool) (s : Standby) → Same s (run_pending w s)
same_pending w s = record { epoch = refl; connections = refl; promoted = refl; version = refl; handles = refl; sessions = pending_session w s }

same_trans : (s s₁ s₂ : Standby) → Same s s₁ → Same s₁ s₂ → Same s s₂
same_trans s s₁ s₂ p q =
    record {
      epoch = q.epoch ∙ p.epoch;
      connections = q.connections ∙ p.connections;
      promoted = q.promoted ∙ p.promoted;
      version = q.version ∙ p.version;
      handles = q.handles ∙ p.handles;
      sessions = λ n. q.sessions n ∙ p.sessions n;
    }

-- a refusal with a number outside 14 to 18
abbrev outside : Answer → Bool
outside (reply f) = false
outside (refused n) = is_outside n
outside done = false

-- what an aside is, of what the reader made of it
abbrev AsideOf : ℕ → Given → Answer → Type 0
AsideOf e (damaged n) a = Unit {0}
AsideOf e (intact f) a = T (lower e f) ⊎ T (outside a)

aside_refused : (e : ℕ) (g : Given) (n : ℕ) → T (is_outside n) → AsideOf e g (refused n)
aside_refused e (damaged m) n t = tt
aside_refused e (intact f) n t = inr t

aside_of : {v e : ℕ} {w : List ℕ} {a : Answer} → Aside v e w a → AsideOf e (given v w) a
aside_of {e = e} {a = a} (is_lower p t) = subst (λ (g : Given). AsideOf e g a) (sym p) (inl t)
aside_of {v} {e} {w} (refused_outside {n = n} t) = aside_refused e (given v w) n t

-- a Batch that passed 13 and the epoch is answered, or refused with 14 to 18
batch_inside : {L : Settings} {s : Standby} {h n : ℕ} {p : Part} {cs : List Change} {r : Result} → Batches L s h n p cs r → T (outside r.answer) → ⊥
batch_inside (refuses {m} t) u = T_not (is_outside m) t u
batch_inside (clears f) u = u
batch_inside (raises f t) u = u
batch_inside (holds f q t) u = u
batch_inside (applies f g t) u = u
batch_inside (diverges f g) u = u

not_both : (e e₀ e₁ : ℕ) → e₀ ≡ e → e₀ ≤ e₁ → T (ltb e₁ e) → ⊥
not_both e e₀ e₁ p h u = omega (arith, ltb→lt e₁ e u)

-- an aside leaves all as it was
leaves : {L : Settings} {s : Standby} {f : Frame} {r : Result} (e : ℕ) → s.counters.epoch ≡ e → Does L s f r → T (lower e f) ⊎ T (outside r.answer) → Same s r.state
leaves {s} e p (turns t) a = same_refl s
leaves {s} e p tells a = same_refl s
leaves {s} e p (nacks q) a = same_refl s
leaves {s} e p (greets {e = e₁} h) a = elim a [ inl u ↦ absurd (not_both e s.counters.epoch e₁ p h u) | inr u ↦ absurd u ]
leaves {s} e p (binds {e = e₁} h st x y) a = elim a [ inl u ↦ absurd (not_both e s.counters.epoch e₁ p h u) | inr u ↦ absurd u ]
leaves {s} e p (checks {e = e₁} h) a = elim a [ inl u ↦ absurd (not_both e s.counters.epoch e₁ p h u) | inr u ↦ absurd u ]
leaves {s} e p (batches {e = e₁} h d) a = elim a [ inl u ↦ absurd (not_both e s.counters.epoch e₁ p h u) | inr u ↦ absurd (batch_inside d u) ]

module _ (L : Settings) where
  leaves_given : (e : ℕ) (s : Standby) (g : Given) → s.counters.epoch ≡ e → AsideOf e g (on_given L s g).answer → Same s (on_given L s g).state
  unfolding on_given
  leaves_given e s (damaged n) p a = same_refl s
  leaves_given e s (intact f) p a =
      (cond_cases (λ (r : Result). T (lower e f) ⊎ T (outside r.answer) → Same s r.state) s.counters.promoted (λ _ _. same_refl s)
      (λ _ v. same_trans s (run_pending (due s.pending f) s) _ (same_pending (due s.pending f) s) (leaves e p (does L (run_pending (due s.pending f) s) f) v)))
      a

module _ (L : Settings) where
  step_answer : (s : Standby) (c : Call) (w : List ℕ) → Hands c w → (step L s c).answer ≡ (on_given L s (given s.counters.version w)).answer
  unfolding step
  step_answer s c w by_held = refl
  step_answer s c w by_frame = refl

  step_state : (s : Standby) (c : Call) (w : List ℕ) → Hands c w → Same (on_given L s (given s.counters.version w)).state (step L s c).state
  unfolding step
  step_state s c w by_held = same_refl _
  step_state s c w by_frame = same_pending (is_reply (on_given L s (given s.counters.version w)).answer) (on_given L s (given s.counters.version w)).state

  aside_same : (e : ℕ) (s : Standby) (c : Call) (w : List ℕ) → s.counters.epoch ≡ e → Hands c w → Aside s.counters.version e w (step L s c).answer → Same s (step L s c).state
  aside_same e s c w p hands a =
      same_trans s (on_given L s (given s.counters.version w)).state (step L s c).state
      (leaves_given L e s (given s.counters.version w) p (aside_of (subst (Aside s.counters.version e w) (step_answer s c w hands) a))) (step_state s c w hands)

  flush_same : (s : Standby) (n : ℕ) → Same s (step L s (flush n)).state
  unfolding step
  flush_same s n = cond_cases (λ (r : Result). Same s r.state) (not (eqb n s.counters.connections) || s.counters.promoted) (λ _. same_refl s) (λ _. same_pending true s)

-- ---- A's frames

pub starts_append : (x y : List Change) → starts_with_reset x ≡ true → starts_with_reset (x ++ y) ≡ true
starts_append [] y e = absurd (T_not true (subst (λ (b : Bool). T (not b)) e tt) tt)
starts_append (set_incoming n ∷ x) y e = e
starts_append (set_incoming_in_flight n f ∷ x) y e = e
starts_append (set_in_flight f ∷ x) y e = e
starts_append (record_msg q w ∷ x) y e = e
starts_append (record_bare q ∷ x) y e = e
starts_append (reset ∷ x) y e = e
starts_append (set_created_at t ∷ x) y e = e
starts_append (set_marks m ∷ x) y e = e

-- not 16
no_16 : (H cs : List Change) → starts_with_reset (H ++ cs) ≡ true → (is_empty H && not (starts_with_reset cs)) ≡ false
no_16 [] cs e = ap not e
no_16 (x ∷ H) cs e = refl

module _ (L : Settings) where
  -- what the three tests of a Whole or LastWhole ask
  record Holds (H cs : List Change) : Type 0 where
    begins : starts_with_reset (H ++ cs) ≡ true
    few : message_bytes H + message_bytes cs ≤ max_whole
    small : sizes (H ++ cs) ≤ L.room

  -- a handle at place p and number m that holds H, with the byte sum y
  abbrev pub held_at : ℕ → ℕ → List Change → ℕ → Bound
  held_at p m H y = record { place = p; number = m; held = H; bytes = y }

  hold_passes : (s : Standby) (h p m : ℕ) (H cs : List Change) (y : ℕ) (go : Result) → held_sum (held_at p m H y) ≡ message_bytes H → Holds H cs → hold L s h (held_at p m H y) cs go ≡ go
  unfolding hold
  hold_passes s h p m H cs y go hy q =
      cond-false _ _ (no_16 H cs q.begins)
      ∙ cond-false _ _ (ltb_false {m = max_whole} {n = min (held_sum (held_at p m H y) + message_bytes cs) top} (omega (arith, hy, q.few)))
      ∙ cond-false _ _ (ltb_false q.small)

  -- a Batch at the standby's epoch that follows on handle h
  batch_part : (s : Standby) (e h : ℕ) (b : Bound) (p : Part) (cs : List Change) → s.counters.epoch ≡ e → find h s.handles ≡ some b → b.number < top
      → on_batch L s h e (suc b.number) p cs [] ≡ on_part L (with_counters s (at_epoch e s.counters)) h b (suc b.number) p cs
  unfolding on_batch on_handle
  batch_part s e h b p cs pe ph lt =
      cond-false _ _ (ltb_false {m = e} {n = s.counters.epoch} (le_of_eq pe))
      ∙ ap (λ (o : Option Bound). on_handle L (with_counters s (at_epoch e s.counters)) h o (suc b.number) p cs) ph
      ∙ cond-true _ _ (and_true (eqb_true (suc b.number)) (ltb_true lt))

  batch_unbound : (s : Standby) (e h n : ℕ) (p : Part) (cs : List Change) → s.counters.epoch ≡ e → find h s.handles ≡ none
      → on_batch L s h e n p cs [] ≡ refuse (with_counters s (at_epoch e s.counters)) 14
  unfolding on_batch on_handle
  batch_unbound s e h n p cs pe ph =
      cond-false _ _ (ltb_false {m = e} {n = s.counters.epoch} (le_of_eq pe))
      ∙ ap (λ (o : Option Bound). on_handle L (with_counters s (at_epoch e s.counters)) h o n p cs) ph

  given_intact : (s : Standby) (f : Frame) → s.counters.promoted ≡ false → on_given L s (intact f) ≡ on_intact L (run_pending (due s.pending f) s) f
  unfolding on_given
  given_intact s f p = cond-false _ _ p

-- a byte sum that is the held messages' counts as that
sum_is : (p m : ℕ) (H : List Change) (y : ℕ) → y ≡ message_bytes H → held_sum (record { place = p; number = m; held = H; bytes = y }) ≡ message_bytes H
sum_is p m [] y e = refl
sum_is p m (x ∷ H) y e = e

module _ (L : Settings) (A B : Session) (here h e ver : ℕ) (okA : Holdable L.C L.M A) (C-small : L.C ≤ 33554432) (room-big : hold_length L.C L.M A.stamp ≤ L.room) where
  -- what is handed in is the Batch written
  given_written : (n : ℕ) (p : Part) (cs : List Change) → Writable ver (batch h e n p cs []) → given ver (encode (batch h e n p cs [])) ≡ intact (batch h e n p cs [])
  unfolding given
  given_written n p cs w =
      ap (judged (length (encode (batch h e n p cs [])))) (decode_alone ver (batch h e n p cs []) w) ∙ cond-true _ _ (eqb_true (length (encode (batch h e n p cs []))))

  -- after A's last, or after a drop
  pub record Resting (s : Standby) (X : Session) : Type 0 where
    pub epoch : s.counters.epoch ≡ e
    pub promoted : s.counters.promoted ≡ false
    pub version : s.counters.version ≡ ver
    pub session : session_at s.places here ≡ some X

  -- A's parts so far are held
  pub record Holding (s : Standby) (m : ℕ) (H : List Change) : Type 0 where
    pub rests : Resting s B
    pub sum : ℕ
    pub handle : find h s.handles ≡ some (held_at L here m H sum)
    pub counted : held_sum (held_at L here m H sum) ≡ message_bytes H

  same_resting : (s s₁ : Standby) (X : Session) → Same s s₁ → Resting s X → Resting s₁ X
  same_resting s s₁ X p q = record { epoch = p.epoch ∙ q.epoch; promoted = p.promoted ∙ q.promoted; version = p.version ∙ q.version; session = p.sessions here ∙ q.session }

  same_holding : (s s₁ : Standby) (m : ℕ) (H : List Change) → Same s s₁ → Holding s m H → Holding s₁ m H
  same_holding s s₁ m H p q = record { rests = same_resting s s₁ B p q.rests; sum = q.sum; handle = ap (find h) p.handles ∙ q.handle; counted = q.counted }

  fits_in : (H cs rest : List Change) → H ++ (cs ++ rest) ≡ whole_changes A → starts_with_reset (H ++ cs) ≡ true → Holds L H cs
  fits_in H cs rest w b =
      record {
        begins = b;
        few = omega (arith, message_bytes_append H (cs ++ rest), message_bytes_append cs rest, ap message_bytes w, bytes_whole A, okA.msgs_bytes);
        small = omega (arith, sizes_append H (cs ++ rest), sizes_append cs rest, sizes_append H cs, ap sizes w, sizes_whole L.C L.M A okA);
      }

  bytes_eq : (H cs rest : List Change) (x : ℕ) → H ++ (cs ++ rest) ≡ whole_changes A → x ≡ message_bytes H → min (x + message_bytes cs) top ≡ message_bytes (H ++ cs)
  bytes_eq H cs rest x w hx = omega (arith, hx, message_bytes_append H cs, message_bytes_append H (cs ++ rest), message_bytes_append cs rest, ap message_bytes w, bytes_whole A, okA.msgs_bytes)

  set_found : (t : Row Bound) (b b₁ : Bound) → find h t ≡ some b → find h (put h b₁ t) ≡ some b₁
  set_found t b b₁ p = find_put_found h b₁ b t p

  -- a Whole is taken and held
  whole_taken : (s : Standby) (m : ℕ) (H cs rest : List Change) → H ++ (cs ++ rest) ≡ whole_changes A → starts_with_reset (H ++ cs) ≡ true → m < top → Holding s m H
      → ((on_batch L s h e (suc m) whole cs []).answer ≡ reply (ack h (suc m))) × Holding (on_batch L s h e (suc m) whole cs []).state (suc m) (H ++ cs)
  unfolding on_part
  whole_taken s m H cs rest w b lt q =
      (ap (λ (r : Result). r.answer) is, subst (λ (r : Result). Holding r.state (suc m) (H ++ cs)) (sym is) now)
    where
      y : ℕ
      y = raised (held_at L here m H q.sum) cs

      is : on_batch L s h e (suc m) whole cs [] ≡ says (with_handle (with_counters s (at_epoch e s.counters)) h (held_at L here (suc m) (H ++ cs) y)) (ack h (suc m))
      is =
          batch_part L s e h (held_at L here m H q.sum) whole cs q.rests.epoch q.handle lt
          ∙ hold_passes L (with_counters s (at_epoch e s.counters)) h here m H cs q.sum _ q.counted (fits_in H cs rest w b)

      now : Holding (with_handle (with_counters s (at_epoch e s.counters)) h (held_at L here (suc m) (H ++ cs) y)) (suc m) (H ++ cs)
      now =
          record {
            rests = record { epoch = refl; promoted = q.rests.promoted; version = q.rests.version; session = q.rests.session };
            sum = y;
            handle = set_found s.handles (held_at L here m H q.sum) (held_at L here (suc m) (H ++ cs) y) q.handle;
            counted = sum_is here (suc m) (H ++ cs) y (bytes_eq H cs rest (held_sum (held_at L here m H q.sum)) w q.counted);
          }

  -- the LastWhole is taken, and the session is A
  last_taken : (s : Standby) (m : ℕ) (H cs : List Change) → H ++ (cs ++ []) ≡ whole_changes A → starts_with_reset (H ++ cs) ≡ true → m < top → Holding s m H
      → ((on_batch L s h e (suc m) last_whole cs []).answer ≡ reply (ack h (suc m))) × Resting (on_batch L s h e (suc m) last_whole cs []).state A
  unfolding on_part settle
  last_taken s m H cs w b lt q =
      (ap (λ (r : Result). r.answer) is, subst (λ (r : Result). Resting r.state A) (sym is) now)
    where
      all : H ++ cs ≡ whole_changes A
      all = ap (λ (l : List Change). H ++ l) (sym (append-nil cs)) ∙ w

      s₁ : Standby
      s₁ = applied L (with_counters s (at_epoch e s.counters)) h (none_held (held_at L here m H q.sum)) (suc m) (H ++ cs)

      is : on_batch L s h e (suc m) last_whole cs [] ≡ says s₁ (ack h (suc m))
      is =
          batch_part L s e h (held_at L here m H q.sum) last_whole cs q.rests.epoch q.handle lt
          ∙ hold_passes L (with_counters s (at_epoch e s.counters)) h here m H cs q.sum _ q.counted (fits_in H cs [] w b)
          ∙ cond-true _ _ (ap (fits (or_new (session_at s.places here)).next_out) all ∙ fits_whole L.C L.M A (or_new (session_at s.places here)).next_out okA)

      up : (o : Option Place) → map (λ (x : Place). x.stored.session) o ≡ some B → map (λ (x : Place). x.stored.session) (map (on_stored (changed L.C L.M (H ++ cs))) o) ≡ some A
      up none p = absurd (none≢some p)
      up (some x) p = ap {B = Option Session} some (ap (λ (l : List Change). apply_all L.C L.M l x.stored.session) all ∙ apply_whole L.C L.M A x.stored.session okA)

      now : Resting s₁ A
      now =
          record {
            epoch = refl;
            promoted = q.rests.promoted;
            version = q.rests.version;
            session = ap (map (λ (x : Place). x.stored.session)) (at_on_same here (changed L.C L.M (H ++ cs)) s.places) ∙ up (get_elem? s.places here) q.rests.session;
          }

  -- a call that hands in A's next frame
  call_whole : (s : Standby) (c : Call) (m : ℕ) (H cs rest : List Change) → H ++ (cs ++ rest) ≡ whole_changes A → starts_with_reset (H ++ cs) ≡ true → m < top → Holding s m H
      → Writable ver (batch h e (suc m) whole cs []) → Hands c (encode (batch h e (suc m) whole cs [])) → (accepted (step L s c).answer ≡ true) × Holding (step L s c).state (suc m) (H ++ cs)
  call_whole s c m H cs rest w b lt q fine hands = (
    ap accepted (step_answer L s c (encode f) hands ∙ ap (λ (r : Result). r.answer) is ∙ got₁.0),
    same_holding _ _ (suc m) (H ++ cs) (step_state L s c (encode f) hands) (subst (λ (r : Result). Holding r.state (suc m) (H ++ cs)) (sym is) got₁.1),
  )
    where
      f : Frame
      f = batch h e (suc m) whole cs []

      is : on_given L s (given s.counters.version (encode f)) ≡ on_intact L (run_pending (due s.pending f) s) f
      is = ap (λ (x : ℕ). on_given L s (given x (encode f))) q.rests.version ∙ ap (on_given L s) (given_written (suc m) whole cs fine) ∙ given_intact L s f q.rests.promoted

      got₁ : ((on_batch L (run_pending (due s.pending f) s) h e (suc m) whole cs []).answer ≡ reply (ack h (suc m))) × Holding (on_batch L (run_pending (due s.pending f) s) h e (suc m) whole cs []).state (suc m) (H ++ cs)
      got₁ = whole_taken (run_pending (due s.pending f) s) m H cs rest w b lt (same_holding s _ m H (same_pending (due s.pending f) s) q)

  call_last : (s : Standby) (c : Call) (m : ℕ) (H cs : List Change) → H ++ (cs ++ []) ≡ whole_changes A → starts_with_reset (H ++ cs) ≡ true → m < top → Holding s m H
      → Writable ver (batch h e (suc m) last_whole cs []) → Hands c (encode (batch h e (suc m) last_whole cs [])) → (accepted (step L s c).answer ≡ true) × Resting (step L s c).state A
  call_last s c m H cs w b lt q fine hands = (
    ap accepted (step_answer L s c (encode f) hands ∙ ap (λ (r : Result). r.answer) is ∙ got₁.0),
    same_resting _ _ A (step_state L s c (encode f) hands) (subst (λ (r : Result). Resting r.state A) (sym is) got₁.1),
  )
    where
      f : Frame
      f = batch h e (suc m) last_whole cs []

      is : on_given L s (given s.counters.version (encode f)) ≡ on_intact L (run_pending (due s.pending f) s) f
      is = ap (λ (x : ℕ). on_given L s (given x (encode f))) q.rests.version ∙ ap (on_given L s) (given_written (suc m) last_whole cs fine) ∙ given_intact L s f q.rests.promoted

      got₁ : ((on_batch L (run_pending (due s.pending f) s) h e (suc m) last_whole cs []).answer ≡ reply (ack h (suc m))) × Resting (on_batch L (run_pending (due s.pending f) s) h e (suc m) last_whole cs []).state A
      got₁ = last_taken (run_pending (due s.pending f) s) m H cs w b lt (same_holding s _ m H (same_pending (due s.pending f) s) q)

  -- ... on a handle that a drop has unbound
  call_unbound : (s : Standby) (c : Call) (n : ℕ) (p : Part) (cs : List Change) (X : Session) → find h s.handles ≡ none → Resting s X
      → Writable ver (batch h e n p cs []) → Hands c (encode (batch h e n p cs [])) → (accepted (step L s c).answer ≡ false) × (find h (step L s c).state.handles ≡ none) × Resting (step L s c).state X
  call_unbound s c n p cs X u r fine hands = (
    ap accepted (step_answer L s c (encode f) hands ∙ ap (λ (x : Result). x.answer) is),
    ap (find h) (step_state L s c (encode f) hands).handles ∙ ap (λ (x : Result). find h x.state.handles) is ∙ u,
    same_resting _ _ X (step_state L s c (encode f) hands) (subst (λ (x : Result). Resting x.state X) (sym is) now),
  )
    where
      f : Frame
      f = batch h e n p cs []

      s₁ : Standby
      s₁ = run_pending (due s.pending f) s

      is : on_given L s (given s.counters.version (encode f)) ≡ refuse (with_counters s₁ (at_epoch e s₁.counters)) 14
      is = ap (λ (x : ℕ). on_given L s (given x (encode f))) r.version ∙ ap (on_given L s) (given_written n p cs fine) ∙ given_intact L s f r.promoted ∙ batch_unbound L s₁ e h n p cs r.epoch u

      now : Resting (with_counters s₁ (at_epoch e s₁.counters)) X
      now = record { epoch = refl; promoted = r.promoted; version = r.version; session = pending_session (due s.pending f) s here ∙ r.session }

  -- ---- the lists

  record FrameIs (f : Frame) (left : List Frame) (m : ℕ) : Type 0 where
    part : Part
    own : List Change
    more : List (List Change)
    frame_is : f ≡ batch h e (suc m) part own []
    left_is : left ≡ frames_of h e (suc m) more

  frame_is : (f : Frame) (left : List Frame) (m : ℕ) (bs : List (List Change)) → f ∷ left ≡ frames_of h e m bs → FrameIs f left m
  frame_is f left m [] p = absurd (nil≢cons (sym p))
  frame_is f left m (b ∷ []) p = record { part = last_whole; own = b; more = []; frame_is = head-eq_of_cons-eq p; left_is = tail-eq_of_cons-eq p }
  frame_is f left m (b ∷ c ∷ bs) p = record { part = whole; own = b; more = c ∷ bs; frame_is = head-eq_of_cons-eq p; left_is = tail-eq_of_cons-eq p }

  frames_more : (m : ℕ) (b : List Change) (bs : List (List Change)) → is_empty (frames_of h e m (b ∷ bs)) ≡ false
  frames_more m b [] = refl
  frames_more m b (c ∷ bs) = refl

  drop_resting : (s : Standby) (n : ℕ) (X : Session) → Resting s X → Resting (step L s (disconnected_from n)).state X
  unfolding step
  drop_resting s n X r =
      cond_cases (λ (x : Standby). Resting x X) (eqb n s.counters.connections) (λ _. record { epoch = r.epoch; promoted = r.promoted; version = r.version; session = r.session }) (λ _. r)

  drop_unbound : (s : Standby) (n : ℕ) → find h s.handles ≡ none → find h (step L s (disconnected_from n)).state.handles ≡ none
  unfolding step
  drop_unbound s n u = cond_cases (λ (x : Standby). find h x.handles ≡ none) (eqb n s.counters.connections) (λ _. find_freed h s.handles) (λ _. u)

  drop_is : (s : Standby) (n : ℕ) (w : Bool) → eqb n s.counters.connections ≡ w → (step L s (disconnected_from n)).state ≡ cond w (unbound s) s
  unfolding step
  drop_is s n w p = ap (λ (x : Bool). cond x (unbound s) s) p

  and_false : (x y : Bool) → y ≡ false → (x && y) ≡ false
  and_false true y p = p
  and_false false y p = refl

  -- after the calls the session there is X
  abbrev pub Finally : Standby → List Call → Session → Type 0
  Finally s cs X = session_at (run L s cs).places here ≡ some X

  -- no frame of A's is left
  quiet_run : {fs : List Frame} {s : Standby} {cs : List Call} (d : FirstList L e fs s cs) (X : Session) → fs ≡ [] → Resting s X
      → ModelAllTaken d × (model_took_last d ≡ false) × (Finally s cs X)
  quiet_run list_ends X p r = (tt, refl, r.session)
  quiet_run (ours_next hands rest) X p r = absurd (nil≢cons (sym p))
  quiet_run (aside_next {s} {c} {w} hands a rest) X p r = quiet_run rest X p (same_resting s _ X (aside_same L e s c w r.epoch hands a) r)
  quiet_run (flush_next {s} n rest) X p r = quiet_run rest X p (same_resting s _ X (flush_same L s n) r)
  quiet_run (drop_next {s} n rest) X p r =
      let q = quiet_run rest X p (drop_resting s n X r) in
      (cond_cases (λ (t : Type 0). t) (eqb n s.counters.connections) (λ _. tt) (λ _. q.0), q.1, q.2)

  -- the handle is unbound
  cut_run : {fs : List Frame} {s : Standby} {cs : List Call} (d : FirstList L e fs s cs) (m : ℕ) (bs : List (List Change)) (X : Session) → fs ≡ frames_of h e m bs → Each (Writable ver) fs → find h s.handles ≡ none → Resting s X
      → (model_took_last d ≡ false) × (Finally s cs X)
  cut_run list_ends m bs X p fine u r = (refl, r.session)
  cut_run (ours_next {f} {left} {s} {c} hands rest) m bs X p fine u r =
      let v = frame_is f left m bs p in
      let q = call_unbound s c (suc m) v.part v.own X u r (subst (Writable ver) v.frame_is fine.0) (subst (λ (x : Frame). Hands c (encode x)) v.frame_is hands) in
      let z = cut_run rest (suc m) v.more X v.left_is fine.1 q.1 q.2 in
      (ap (λ (x : Bool). x || model_took_last rest) (and_false (is_empty left) (accepted (step L s c).answer) q.0) ∙ z.0, z.1)
  cut_run (aside_next {s} {c} {w} hands a rest) m bs X p fine u r =
      let same = aside_same L e s c w r.epoch hands a in
      cut_run rest m bs X p fine (ap (find h) same.handles ∙ u) (same_resting s _ X same r)
  cut_run (flush_next {s} n rest) m bs X p fine u r =
      let same = flush_same L s n in
      cut_run rest m bs X p fine (ap (find h) same.handles ∙ u) (same_resting s _ X same r)
  cut_run (drop_next {s} n rest) m bs X p fine u r = cut_run rest m bs X p fine (drop_unbound s n u) (drop_resting s n X r)

  abbrev pub Ends : {fs : List Frame} {s : Standby} {cs : List Call} → FirstList L e fs s cs → Type 0
  Ends {s} {cs} d = ModelAllTaken d × (Finally s cs (cond (model_took_last d) A B))

  -- A's parts up to H are held, b and bs are to come
  pub record Coming (m : ℕ) (H b : List Change) (bs : List (List Change)) : Type 0 where
    pub all : H ++ (b ++ all_changes bs) ≡ whole_changes A
    pub begins : starts_with_reset (H ++ b) ≡ true
    pub numbers : m + suc (length bs) ≤ top

  pub hold_run : {fs : List Frame} {s : Standby} {cs : List Call} (d : FirstList L e fs s cs) (m : ℕ) (H b : List Change) (bs : List (List Change))
      → fs ≡ frames_of h e m (b ∷ bs) → Each (Writable ver) fs → Coming m H b bs → Holding s m H → Ends d
  hold_run list_ends m H b bs p fine w q = (tt, q.rests.session)
  hold_run (ours_next {f} {left} {s} {c} {cs} hands rest) m H b bs p fine w q = go bs p w (hold_run rest)
    where
      go : (bs : List (List Change)) → f ∷ left ≡ frames_of h e m (b ∷ bs) → Coming m H b bs
          → ((m₁ : ℕ) (H₁ b₁ : List Change) (bs₁ : List (List Change)) → left ≡ frames_of h e m₁ (b₁ ∷ bs₁) → Each (Writable ver) left → Coming m₁ H₁ b₁ bs₁ → Holding (step L s c).state m₁ H₁ → Ends rest)
          → Ends (ours_next {f = f} {left = left} {s = s} {c = c} {cs = cs} hands rest)
      go [] p w ih =
          let x = call_last s c m H b w.all w.begins (omega (arith, w.numbers)) q (subst (Writable ver) (head-eq_of_cons-eq p) fine.0) (subst (λ (y : Frame). Hands c (encode y)) (head-eq_of_cons-eq p) hands) in
          let z = quiet_run rest A (tail-eq_of_cons-eq p) x.1 in
          let t : (is_empty left && accepted (step L s c).answer || model_took_last rest) ≡ true = ap (λ (y : Bool). y || model_took_last rest) (and_true (ap is_empty (tail-eq_of_cons-eq p)) x.0) in
          ((true→T _ x.0, z.0), subst (Finally s (c ∷ cs)) (sym (cond-true A B t)) z.2)
      go (b₁ ∷ bs) p w ih =
          let x = call_whole s c m H b (b₁ ++ all_changes bs) w.all w.begins (omega (arith, w.numbers)) q (subst (Writable ver) (head-eq_of_cons-eq p) fine.0) (subst (λ (y : Frame). Hands c (encode y)) (head-eq_of_cons-eq p) hands) in
          let w₁ : Coming (suc m) (H ++ b) b₁ bs =
          record { all = append_assoc H b (b₁ ++ all_changes bs) ∙ w.all; begins = starts_append (H ++ b) b₁ w.begins; numbers = omega (arith, w.numbers) } in
          let z = ih (suc m) (H ++ b) b₁ bs (tail-eq_of_cons-eq p) fine.1 w₁ x.1 in
          let t : (is_empty left && accepted (step L s c).answer || model_took_last rest) ≡ model_took_last rest =
          ap (λ (y : Bool). y && accepted (step L s c).answer || model_took_last rest) (ap is_empty (tail-eq_of_cons-eq p) ∙ frames_more (suc m) b₁ bs) in
          ((true→T _ x.0, z.0), subst (λ (y : Bool). Finally s (c ∷ cs) (cond y A B)) (sym t) z.1)
  hold_run (aside_next {s} {c} {w = w₁} hands a rest) m H b bs p fine w q = hold_run rest m H b bs p fine w (same_holding s _ m H (aside_same L e s c w₁ q.rests.epoch hands a) q)
  hold_run (flush_next {s} n rest) m H b bs p fine w q = hold_run rest m H b bs p fine w (same_holding s _ m H (flush_same L s n) q)
  hold_run (drop_next {s} {cs} n rest) m H b bs p fine w q = go (eqb n s.counters.connections) refl (hold_run rest m H b bs p fine w)
    where
      go : (x : Bool) → eqb n s.counters.connections ≡ x → (Holding (step L s (disconnected_from n)).state m H → Ends rest) → Ends (drop_next {s = s} {cs = cs} n rest)
      go true y ih =
          let is = drop_is s n true y in
          let z = cut_run rest m (b ∷ bs) B p fine (ap (λ (v : Standby). find h v.handles) is ∙ find_freed h s.handles)
          (subst (λ (v : Standby). Resting v B) (sym is) (record { epoch = q.rests.epoch; promoted = q.rests.promoted; version = q.rests.version; session = q.rests.session })) in
          (subst (λ (v : Bool). cond v (Unit {0}) (ModelAllTaken rest)) (sym y) tt, subst (λ (v : Bool). Finally s (disconnected_from n ∷ cs) (cond v A B)) (sym z.0) z.1)
      go false y ih =
          let z = ih (subst (λ (v : Standby). Holding v m H) (sym (drop_is s n false y)) q) in
          (subst (λ (v : Bool). cond v (Unit {0}) (ModelAllTaken rest)) (sym y) z.0, z.1)
