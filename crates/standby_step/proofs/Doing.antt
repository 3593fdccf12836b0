-- What the definition does to the row is what its answer says. Assumes nothing.
use mathlib.Core.Path.{◌≡◌, refl, sym, ap, ◌∙◌}
use mathlib.Core.Bool.{Bool, true, false, cond, not, ◌&&◌, ◌||◌}
use mathlib.Core.List.{List, ◌++◌}
use mathlib.Core.Option.{Option, none, some}
use Prim.Native.Nat.{ℕ}
use lib.Dec.{eqb, ltb}
use lib.ListN.{length}
use Rattle.model_frame.specs.Frame.{Key, Change, Part, commit, whole, last_whole, AppRecord, Frame, hello, welcome, bind, batch, ack, nack, bound, checked}
use Rattle.model_frame.specs.Parse.{is_empty}
use Rattle.model_frame.specs.Sizes.{sizes}
use Rattle.model_session.specs.Session.{suits, fits}
use Rattle.model_text.specs.Version.{is_version}
use Rattle.model_standby.specs.Answer.{Given, damaged, intact, given, Answer, refused, accepted, says_diverged}
use Rattle.model_standby.specs.Store.{place_of, is_stored, session_at, or_new}
use Rattle.model_standby.specs.State.{Settings, incarnation_of, Bound, Call, on_frame_held, on_frame, flush, disconnected_from, promote, promote_unchecked, at_epoch, none_held}
use Rattle.model_standby.specs.Standby.{due, follows, raised, max_whole, starts_with_reset}
use Rattle.model_standby.specs.Core.{Action, leave, store, rebind, clear, Core, CoreResult, counting, core_run, core_hello, core_bind, core_checked, core_settle, core_hold, core_part, core_handle, core_batch, core_intact, core_given, core_step}
use Rattle.standby_step.specs.Calls.{RowChange, keeps, puts, rebinds, frees, says_too_many, row_by_frame, row_by_given, row_by}

abbrev pub kind_of : Action → RowChange
kind_of leave = keeps
kind_of (store h b) = puts h
kind_of (rebind h b) = rebinds h
kind_of clear = frees

-- the action is what P says of the answer
record Does (P : Answer → RowChange) (r : CoreResult) : Type 0 where
  does : kind_of r.action ≡ P r.answer

so : {P : Answer → RowChange} {r : CoreResult} → kind_of r.action ≡ P r.answer → Does P r
so p = record { does = p }

either : {P : Answer → RowChange} (t : Bool) {x y : CoreResult} → Does P x → Does P y → Does P (cond t x y)
either true p q = p
either false p q = q

-- what is said of a Batch
abbrev OfBatch : ℕ → Answer → RowChange
OfBatch h a = cond (accepted a || (says_diverged a || says_too_many a)) (puts h) keeps

module _ (L : Settings) where
  settle_does : (k : Core) (h : ℕ) (b : Bound) (n : ℕ) (cs : List Change) → Does (OfBatch h) (core_settle L k h b n cs)
  unfolding core_settle
  settle_does k h b n cs = either (fits (or_new (session_at k.places b.place)).next_out cs) (so refl) (so refl)

  hold_does : (k : Core) (h : ℕ) (b : Bound) (cs : List Change) (go : CoreResult) → Does (OfBatch h) go → Does (OfBatch h) (core_hold L k h b cs go)
  unfolding core_hold
  hold_does k h b cs go p =
      either (is_empty b.held && not (starts_with_reset cs)) (so refl)
      (either (ltb max_whole (raised b cs)) (so refl)
      (either (ltb L.room (sizes (b.held ++ cs))) (so refl) p))

  part_does : (k : Core) (h : ℕ) (b : Bound) (n : ℕ) (p : Part) (cs : List Change) → Does (OfBatch h) (core_part L k h b n p cs)
  unfolding core_part
  part_does k h b n commit cs = either (not (is_empty b.held)) (so refl) (settle_does k h b n cs)
  part_does k h b n whole cs = hold_does k h b cs _ (so refl)
  part_does k h b n last_whole cs = hold_does k h b cs _ (settle_does k h (none_held b) n (b.held ++ cs))

  handle_does : (k : Core) (h : ℕ) (found : Option Bound) (n : ℕ) (p : Part) (cs : List Change) → Does (OfBatch h) (core_handle L k h found n p cs)
  unfolding core_handle
  handle_does k h none n p cs = so refl
  handle_does k h (some b) n p cs = either (follows b n) (part_does k h b n p cs) (so refl)

  batch_does : (k : Core) (found : Option Bound) (h e n : ℕ) (p : Part) (cs : List Change) (apps : List AppRecord) → Does (OfBatch h) (core_batch L k found h e n p cs apps)
  unfolding core_batch
  batch_does k found h e n p cs apps =
      either (not (is_empty apps)) (so refl)
      (either (ltb e k.counters.epoch) (so refl)
      (handle_does (counting k (at_epoch e k.counters)) h found n p cs))

  bind_does : (k : Core) (room : ℕ → Bool) (h e lag : ℕ) (j : Key) → Does (λ a. cond (accepted a) (rebinds h) keeps) (core_bind L k room h e lag j)
  unfolding core_bind
  bind_does k room h e lag j =
      either (ltb e k.counters.epoch) (so refl)
      (either (ltb L.lag lag) (so refl)
      (either (not (suits k.counters.version (or_new (session_at k.places (place_of j k.places))).stamp)) (so refl)
      (either (not (is_stored j k.places || ltb (length k.places) L.S)) (so refl)
      (either (not (room (place_of j k.places))) (so refl) (so refl)))))

  hello_does : (k : Core) (v e : ℕ) (kinds : List ℕ) → Does (λ a. cond (accepted a && not (ltb e k.counters.epoch)) frees keeps) (core_hello L k v e kinds)
  unfolding core_hello
  hello_does k v e kinds = either (not (is_version v)) (so refl) (either (not (is_empty kinds)) (so refl) (by (ltb e k.counters.epoch) _ _ refl refl refl refl))
    where
      by : (t : Bool) (x y : CoreResult) → x.action ≡ leave → accepted x.answer ≡ true → y.action ≡ clear → accepted y.answer ≡ true → Does (λ a. cond (accepted a && not t) frees keeps) (cond t x y)
      by true x y p q r s = so (ap kind_of p ∙ sym (ap (λ (u : Bool). cond (u && false) frees keeps) q))
      by false x y p q r s = so (ap kind_of r ∙ sym (ap (λ (u : Bool). cond (u && true) frees keeps) s))

  checked_does : (k : Core) (h e i : ℕ) → Does (λ a. keeps) (core_checked L k h e i)
  unfolding core_checked
  checked_does k h e i = either (ltb e k.counters.epoch) (so refl) (either (not (eqb i (incarnation_of L))) (so refl) (so refl))

  intact_does : (k : Core) (found : Option Bound) (room : ℕ → Bool) (f : Frame) → Does (row_by_frame k.counters f) (core_intact L k found room f)
  intact_does k found room (hello v e node kinds) = hello_does k v e kinds
  intact_does k found room (welcome e i) = so refl
  intact_does k found room (bind h e lag j) = bind_does k room h e lag j
  intact_does k found room (batch h e n p cs apps) = batch_does k found h e n p cs apps
  intact_does k found room (ack h n) = so refl
  intact_does k found room (nack h r) = so refl
  intact_does k found room (bound h m) = so refl
  intact_does k found room (checked h e i) = checked_does k h e i

  -- 10
  promoted_keeps : (k : Core) (f : Frame) → keeps ≡ row_by_frame k.counters f (refused 10)
  promoted_keeps k (hello v e node kinds) = refl
  promoted_keeps k (welcome e i) = refl
  promoted_keeps k (bind h e lag j) = refl
  promoted_keeps k (batch h e n p cs apps) = refl
  promoted_keeps k (ack h n) = refl
  promoted_keeps k (nack h r) = refl
  promoted_keeps k (bound h m) = refl
  promoted_keeps k (checked h e i) = refl

  given_does : (k : Core) (found : Option Bound) (room : ℕ → Bool) (g : Given) → Does (row_by_given k.counters g) (core_given L k found room g)
  unfolding core_given
  given_does k found room (damaged n) = so refl
  given_does k found room (intact f) = either k.counters.promoted (so (promoted_keeps k f)) (intact_does (core_run (due k.pending f) k) found room f)

  call_does : (k : Core) (found : Option Bound) (room : ℕ → Bool) (c : Call) → Does (row_by k.counters c) (core_step L k found room c)
  unfolding core_step
  call_does k found room (on_frame_held w) = given_does k found room (given k.counters.version w)
  call_does k found room (on_frame w) = so (given_does k found room (given k.counters.version w)).does
  call_does k found room (flush n) = either (not (eqb n k.counters.connections) || k.counters.promoted) (so refl) (so refl)
  call_does k found room (disconnected_from n) = lost (eqb n k.counters.connections) _ _ refl refl
    where
      lost : (t : Bool) (x y : CoreResult) → x.action ≡ clear → y.action ≡ leave → Does (λ a. cond t frees keeps) (cond t x y)
      lost true x y p q = so (ap kind_of p)
      lost false x y p q = so (ap kind_of q)
  call_does k found room promote = either k.counters.checked (so refl) (so refl)
  call_does k found room promote_unchecked = so refl

  pub done_by : (k : Core) (found : Option Bound) (room : ℕ → Bool) (c : Call) → kind_of (core_step L k found room c).action ≡ row_by k.counters c (core_step L k found room c).answer
  done_by k found room c = (call_does k found room c).does
