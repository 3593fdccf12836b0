-- A refusal but 17 does nothing to the row. Assumes nothing.
use mathlib.Core.Path.{◌≡◌, refl, sym, ap, ◌∙◌}
use mathlib.Core.Bool.{Bool, true, false, cond, not, ◌&&◌, ◌||◌, true≢false}
use mathlib.Core.List.{List, ◌++◌}
use mathlib.Core.Option.{Option, none, some}
use Prim.Native.Nat.{ℕ}
use lib.Dec.{eqb, ltb}
use lib.ListN.{length}
use Rattle.model_frame.specs.Frame.{Key, Change, Part, commit, whole, last_whole, AppRecord, Frame, hello, welcome, bind, batch, ack, nack, bound, checked}
use Rattle.model_frame.specs.Parse.{is_empty}
use Rattle.model_frame.specs.Sizes.{sizes}
use Rattle.model_session.specs.Session.{suits, fits}
use Rattle.model_text.specs.Version.{is_version}
use Rattle.model_standby.specs.Answer.{Given, damaged, intact, given, Answer, reply, refused, done}
use Rattle.model_standby.specs.Store.{place_of, is_stored, session_at, or_new}
use Rattle.model_standby.specs.State.{Settings, incarnation_of, Bound, Call, on_frame_held, on_frame, flush, disconnected_from, promote, promote_unchecked, at_epoch, none_held}
use Rattle.model_standby.specs.Standby.{due, follows, raised, max_whole, starts_with_reset}
use Rattle.model_standby.specs.Core.{leave, Core, CoreResult, counting, core_run, core_hello, core_bind, core_checked, core_settle, core_hold, core_part, core_handle, core_batch, core_intact, core_given, core_step}

record Still (r : CoreResult) : Type 0 where
  still : (n : ℕ) → r.answer ≡ refused n → eqb n 17 ≡ false → r.action ≡ leave

either : (b : Bool) {x y : CoreResult} → Still x → Still y → Still (cond b x y)
either true p q = p
either false p q = q

-- whether an answer is no refusal, or 17
abbrev passes : Answer → Bool
passes (reply f) = true
passes (refused n) = eqb n 17
passes done = true

by_leave : {r : CoreResult} → r.action ≡ leave → Still r
by_leave p = record { still = λ n e f. p }

by_answer : {r : CoreResult} → passes r.answer ≡ true → Still r
by_answer p = record { still = λ n e f. absurd (true≢false (sym p ∙ ap passes e ∙ f)) }

module _ (L : Settings) where
  settle_still : (k : Core) (h : ℕ) (b : Bound) (n : ℕ) (cs : List Change) → Still (core_settle L k h b n cs)
  unfolding core_settle
  settle_still k h b n cs = either (fits (or_new (session_at k.places b.place)).next_out cs) (by_answer refl) (by_answer refl)

  hold_still : (k : Core) (h : ℕ) (b : Bound) (cs : List Change) (go : CoreResult) → Still go → Still (core_hold L k h b cs go)
  unfolding core_hold
  hold_still k h b cs go p =
      either (is_empty b.held && not (starts_with_reset cs)) (by_leave refl)
      (either (ltb max_whole (raised b cs)) (by_answer refl)
      (either (ltb L.room (sizes (b.held ++ cs))) (by_leave refl) p))

  part_still : (k : Core) (h : ℕ) (b : Bound) (n : ℕ) (p : Part) (cs : List Change) → Still (core_part L k h b n p cs)
  unfolding core_part
  part_still k h b n commit cs = either (not (is_empty b.held)) (by_leave refl) (settle_still k h b n cs)
  part_still k h b n whole cs = hold_still k h b cs _ (by_answer refl)
  part_still k h b n last_whole cs = hold_still k h b cs _ (settle_still k h (none_held b) n (b.held ++ cs))

  handle_still : (k : Core) (h : ℕ) (found : Option Bound) (n : ℕ) (p : Part) (cs : List Change) → Still (core_handle L k h found n p cs)
  unfolding core_handle
  handle_still k h none n p cs = by_leave refl
  handle_still k h (some b) n p cs = either (follows b n) (part_still k h b n p cs) (by_answer refl)

  batch_still : (k : Core) (found : Option Bound) (h e n : ℕ) (p : Part) (cs : List Change) (apps : List AppRecord) → Still (core_batch L k found h e n p cs apps)
  unfolding core_batch
  batch_still k found h e n p cs apps =
      either (not (is_empty apps)) (by_leave refl)
      (either (ltb e k.counters.epoch) (by_leave refl)
      (handle_still (counting k (at_epoch e k.counters)) h found n p cs))

  bind_still : (k : Core) (room : ℕ → Bool) (h e lag : ℕ) (j : Key) → Still (core_bind L k room h e lag j)
  unfolding core_bind
  bind_still k room h e lag j =
      either (ltb e k.counters.epoch) (by_leave refl)
      (either (ltb L.lag lag) (by_leave refl)
      (either (not (suits k.counters.version (or_new (session_at k.places (place_of j k.places))).stamp)) (by_leave refl)
      (either (not (is_stored j k.places || ltb (length k.places) L.S)) (by_leave refl)
      (either (not (room (place_of j k.places))) (by_leave refl) (by_answer refl)))))

  hello_still : (k : Core) (v e : ℕ) (kinds : List ℕ) → Still (core_hello L k v e kinds)
  unfolding core_hello
  hello_still k v e kinds =
      either (not (is_version v)) (by_leave refl)
      (either (not (is_empty kinds)) (by_leave refl)
      (either (ltb e k.counters.epoch) (by_leave refl) (by_answer refl)))

  checked_still : (k : Core) (h e i : ℕ) → Still (core_checked L k h e i)
  unfolding core_checked
  checked_still k h e i =
      either (ltb e k.counters.epoch) (by_leave refl)
      (either (not (eqb i (incarnation_of L))) (by_leave refl) (by_leave refl))

  intact_still : (k : Core) (found : Option Bound) (room : ℕ → Bool) (f : Frame) → Still (core_intact L k found room f)
  intact_still k found room (hello v e node kinds) = hello_still k v e kinds
  intact_still k found room (welcome e i) = by_leave refl
  intact_still k found room (bind h e lag j) = bind_still k room h e lag j
  intact_still k found room (batch h e n p cs apps) = batch_still k found h e n p cs apps
  intact_still k found room (ack h n) = by_leave refl
  intact_still k found room (nack h r) = by_leave refl
  intact_still k found room (bound h m) = by_leave refl
  intact_still k found room (checked h e i) = checked_still k h e i

  given_still : (k : Core) (found : Option Bound) (room : ℕ → Bool) (g : Given) → Still (core_given L k found room g)
  unfolding core_given
  given_still k found room (damaged n) = by_leave refl
  given_still k found room (intact f) = either k.counters.promoted (by_leave refl) (intact_still (core_run (due k.pending f) k) found room f)

  call_still : (k : Core) (found : Option Bound) (room : ℕ → Bool) (c : Call) → Still (core_step L k found room c)
  unfolding core_step
  call_still k found room (on_frame_held w) = given_still k found room (given k.counters.version w)
  call_still k found room (on_frame w) = record { still = (given_still k found room (given k.counters.version w)).still }
  call_still k found room (flush n) = either (not (eqb n k.counters.connections) || k.counters.promoted) (by_leave refl) (by_leave refl)
  call_still k found room (disconnected_from n) = either (eqb n k.counters.connections) (by_answer refl) (by_leave refl)
  call_still k found room promote = either k.counters.checked (by_answer refl) (by_leave refl)
  call_still k found room promote_unchecked = by_answer refl

  pub refused_still : (k : Core) (found : Option Bound) (room : ℕ → Bool) (c : Call) (n : ℕ) → (core_step L k found room c).answer ≡ refused n → eqb n 17 ≡ false → (core_step L k found room c).action ≡ leave
  refused_still k found room c = (call_still k found room c).still
