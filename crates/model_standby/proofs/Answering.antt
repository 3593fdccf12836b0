-- Every answer can be written, in few bytes: from any state whose sessions can be held, to any bytes. A frame is answered with a frame or a
-- refusal. Assumes nothing.
use mathlib.Core.Path.{◌≡◌, refl}
use Prim.Native.Nat.{ℕ, ◌^◌, ◌≤◌, ◌<◌}
use native.Mathlib.Omega.{arith}
use mathlib.Core.List.{List}
use mathlib.Core.Option.{Option, none, some, map}
use mathlib.Core.Bool.{Bool, true, not, ◌||◌}
use lib.ListN.{length, get_elem?}
use lib.Dec.{T, eqb}
use Rattle.model_text.specs.Printable.{is_marks}
use Rattle.model_text.specs.Stamp.{longest_stamp}
use Rattle.model_text.proofs.Laws.{marks_is}
use Rattle.model_session.proofs.Sending.{stamp_short}
use Rattle.model_frame.specs.Frame.{Reason, lag_too_great, restarted, Change, Part, stale_epoch, diverged, Frame, welcome, ack, nack, bound}
use Rattle.model_frame.specs.Parse.{Each}
use Rattle.model_frame.specs.Writing.{encode, Ranged, Writable, fine}
use Rattle.model_frame.specs.Sizes.{body_size}
use Rattle.model_frame.proofs.Sizes.{body_size_lem, encode_size}
use Rattle.model_session.specs.Session.{Session, suits, Holdable, is_bytes, top}
use Rattle.model_session.specs.Summary.{summary}
use Rattle.model_session.proofs.Basics.{T→true, cond_cases}
use Rattle.model_session.proofs.Keeping.{new_holdable}
use Rattle.model_session.proofs.Summing.{summary_ranged, summary_fine}
use Rattle.model_standby.specs.Answer.{Given, damaged, intact, given, Answer, reply, refused, done}
use Rattle.model_standby.specs.Store.{Place, place_of, session_at, or_new}
use Rattle.model_standby.specs.State.{Settings, incarnation_of, Standby, Result, Call, on_frame_held, on_frame, flush, disconnected_from, promote, promote_unchecked}
use Rattle.model_standby.specs.Standby.{run_pending, due, on_given, step}
use Rattle.model_standby.proofs.Rules.{OkCall, Readable, Valid}
use Rattle.model_standby.proofs.Outcomes.{Nacked, stale_bind, lag_bind, stale_batch, stale_checked, other_checked, Batches, refuses, clears, raises, holds, applies, diverges, Does, turns, tells, nacks, greets, binds, checks, batches, does}
use Rattle.model_standby.proofs.Places.{each_at, each_mark}
use Rattle.model_standby.proofs.Ruling.{Passed, passed}

-- ---- a frame can be written if its numbers and texts can, and it is short

-- the longest answer: a Bound with the longest stamp and the longest marks
abbrev pub answer_bytes : ℕ
answer_bytes = 143

-- in a version
pub record Tellable (version : ℕ) (f : Frame) : Type 0 where
  pub writable : Writable version f
  pub small : length (encode f) ≤ answer_bytes

module _ (version : ℕ) where
  tellable : (f : Frame) → Ranged f → fine version f ≡ true → body_size f ≤ 139 → Tellable version f
  tellable f r t few = record {
    writable = record { ranged = r; texts = t; short = omega (arith, body_size_lem f) };
    small = omega (arith, encode_size f);
  }

  tell_ack : (h n : ℕ) → h < 2 ^ 32 → n < 2 ^ 64 → Tellable version (ack h n)
  unfolding fine
  tell_ack h n hh hn = tellable (ack h n) (hh, hn) refl (omega arith)

  tell_nack : (h : ℕ) (r : Reason) → h < 2 ^ 32 → Tellable version (nack h r)
  unfolding fine
  tell_nack h r hh = tellable (nack h r) hh refl (omega arith)

  tell_welcome : (e i : ℕ) → e < 2 ^ 64 → i < 2 ^ 64 → Tellable version (welcome e i)
  unfolding fine
  tell_welcome e i he hi = tellable (welcome e i) (he, hi) refl (omega arith)

  -- of a session whose stamp suits the version
  tell_bound : (C M h n : ℕ) (s : Session) → h < 2 ^ 32 → Holdable C M s → suits version s.stamp ≡ true → Tellable version (bound h (summary s n))
  unfolding fine summary
  tell_bound C M h n s hh ok suit =
      let e : length s.stamp ≤ longest_stamp = stamp_short s.stamp ok.stamp_ok in
      let m = marks_is s.marks (T→true (is_marks s.marks) ok.marks_ok) in
      tellable (bound h (summary s n)) (hh, summary_ranged version C M s n ok suit) (summary_fine version C M s n ok suit) (omega (arith, e, m.most))

-- ---- the answers

-- to a frame, in the version that the connection then has
abbrev pub Told : ℕ → Answer → Type 0
Told version (reply f) = Tellable version f
Told version (refused n) = Unit {0}
Told version done = ⊥

-- to any call
abbrev pub TellableAnswer : ℕ → Answer → Type 0
TellableAnswer version (reply f) = Tellable version f
TellableAnswer version (refused n) = Unit {0}
TellableAnswer version done = Unit {0}

told_tellable : (version : ℕ) (a : Answer) → Told version a → TellableAnswer version a
told_tellable version (reply f) t = t
told_tellable version (refused n) t = tt
told_tellable version done t = tt

abbrev Says : Result → Type 0
Says r = Told r.state.counters.version r.answer

-- what an answer takes from the state
pub record Telling (L : Settings) (s : Standby) : Type 0 where
  pub epoch_u64 : s.counters.epoch ≤ top
  pub sessions_ok : Each (λ (x : Place). Holdable L.C L.M x.stored.session) s.places

pub valid_telling : (L : Settings) (s : Standby) → Valid L s → Telling L s
valid_telling L s v = record { epoch_u64 = v.epoch_u64; sessions_ok = v.sessions_ok }

module _ (L : Settings) where
  abbrev Held : Place → Type 0
  Held x = Holdable L.C L.M x.stored.session

  telling_pending : (now : Bool) (s : Standby) → Telling L s → Telling L (run_pending now s)
  telling_pending now s r =
      record {
        epoch_u64 = r.epoch_u64;
        sessions_ok = cond_cases (Each Held) now (λ _. each_mark Held s.pending s.places (λ _ h. h) r.sessions_ok) (λ _. r.sessions_ok);
      }

  found_held : (s : Standby) (n : ℕ) → Telling L s → Holdable L.C L.M (or_new (session_at s.places n))
  found_held s n v = go (get_elem? s.places n) refl
    where
      go : (o : Option Place) → get_elem? s.places n ≡ o → Holdable L.C L.M (or_new (map (λ (x : Place). x.stored.session) o))
      go none p = new_holdable L.C L.M
      go (some x) p = each_at Held s.places n x p v.sessions_ok

  batch_says : {s : Standby} {h n : ℕ} {p : Part} {cs : List Change} {r : Result} → Batches L s h n p cs r → h < 2 ^ 32 → n < 2 ^ 64 → Says r
  batch_says (refuses t) hh hn = tt
  batch_says {h} (clears f) hh hn = tell_nack _ h diverged hh
  batch_says (raises f t) hh hn = tt
  batch_says {h} {n} (holds f q t) hh hn = tell_ack _ h n hh hn
  batch_says {h} {n} (applies f g t) hh hn = tell_ack _ h n hh hn
  batch_says {h} (diverges f g) hh hn = tell_nack _ h diverged hh

  nack_says : {f : Frame} {h : ℕ} {r : Reason} (version : ℕ) → Nacked f h r → Readable f → Tellable version (nack h r)
  nack_says version (stale_bind {h}) o = tell_nack version h stale_epoch o.writable.ranged.0
  nack_says version (lag_bind {h}) o = tell_nack version h lag_too_great o.writable.ranged.0
  nack_says version (stale_batch {h}) o = tell_nack version h stale_epoch o.writable.ranged.0
  nack_says version (stale_checked {h}) o = tell_nack version h stale_epoch o.writable.ranged.0
  nack_says version (other_checked {h}) o = tell_nack version h restarted o.writable.ranged.0

  does_says : {s : Standby} {f : Frame} {r : Result} → Does L s f r → L.incarnation ≤ top → Readable f → Telling L s → Says r
  does_says (turns t) i o r = tt
  does_says {s} tells i o r = tell_welcome _ s.counters.epoch (incarnation_of L) (omega (arith, r.epoch_u64)) (omega arith)
  does_says {s} (nacks q) i o r = nack_says s.counters.version q o
  does_says (greets {e} le) i o r = tell_welcome _ e (incarnation_of L) o.writable.ranged.1 (omega arith)
  does_says {s} (binds {h} {lag} {k} le st p q) i o r = tell_bound _ L.C L.M h lag (or_new (session_at s.places (place_of k s.places))) o.writable.ranged.0 (found_held s (place_of k s.places) r) st
  does_says (checks {h} le) i o r = tell_ack _ h 0 o.writable.ranged.0 (omega arith)
  does_says (batches le d) i o r = batch_says d o.writable.ranged.0 o.writable.ranged.2

  given_says : (s : Standby) (g : Given) → L.incarnation ≤ top → Passed g → Telling L s → Says (on_given L s g)
  unfolding on_given
  given_says s (damaged n) i o r = tt
  given_says s (intact f) i o r =
      cond_cases Says s.counters.promoted (λ _. tt) (λ _. does_says (does L (run_pending (due s.pending f) s) f) i o (telling_pending (due s.pending f) s r))

  -- a frame is answered with a refusal, or with a frame that can be written
  pub frame_told : (s : Standby) (w : List ℕ) → L.incarnation ≤ top → T (is_bytes w) → Telling L s → Told (step L s (on_frame w)).state.counters.version (step L s (on_frame w)).answer
  unfolding step
  frame_told s w i o r = given_says s (given s.counters.version w) i (passed s.counters.version w o) r

-- writing an answer never meets 8 or 1, nor 9 in an area of `answer_bytes`
pub answers_tellable : (L : Settings) (s : Standby) (c : Call) → L.incarnation ≤ top → OkCall c → Telling L s → TellableAnswer (step L s c).state.counters.version (step L s c).answer
unfolding step
answers_tellable L s (on_frame_held w) i o r = told_tellable _ (on_given L s (given s.counters.version w)).answer (given_says L s (given s.counters.version w) i (passed s.counters.version w o) r)
answers_tellable L s (on_frame w) i o r = told_tellable _ (on_given L s (given s.counters.version w)).answer (given_says L s (given s.counters.version w) i (passed s.counters.version w o) r)
answers_tellable L s (flush n) i o r = cond_cases (λ (x : Result). TellableAnswer x.state.counters.version x.answer) (not (eqb n s.counters.connections) || s.counters.promoted) (λ _. tt) (λ _. tt)
answers_tellable L s (disconnected_from n) i o r = tt
answers_tellable L s promote i o r = cond_cases (λ (x : Result). TellableAnswer x.state.counters.version x.answer) s.counters.checked (λ _. tt) (λ _. tt)
answers_tellable L s promote_unchecked i o r = tt
