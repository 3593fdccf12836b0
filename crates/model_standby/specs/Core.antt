-- The same calls, cut as the code cuts them: one handle is looked up in the row; a core works on the counters, the places, the
-- pending commits and that handle; it answers, and says what is to be done to the row. `proofs/Factoring` shows that they are
-- the same.
-- Assumes nothing.
use Rattle.std.specs.Prelude.{ℕ, List, [], ◌∷◌, ◌++◌, Bool, true, cond, not, ◌&&◌, ◌||◌, length, ltb, eqb}
use Rattle.std.proofs.Math.Option.{Option, none, some}
use Rattle.model_text.specs.Version.{latest, is_version}
use Rattle.model_frame.specs.Frame.{Key, Change, Part, commit, whole, last_whole, stale_epoch, diverged, lag_too_great, restarted, AppRecord, Frame, hello, welcome, bind, batch, ack, nack, bound, checked}
use Rattle.model_frame.specs.Refusal
use Rattle.model_frame.specs.Parse.{is_empty}
use Rattle.model_frame.specs.Sizes.{sizes}
use Rattle.model_session.specs.Session.{suits, fits}
use Rattle.model_session.specs.Summary.{summary}
use Rattle.model_standby.specs.Answer.{Given, damaged, intact, given, handle_in, Answer, reply, refused, done, is_reply}
use Rattle.model_standby.specs.Row.{Row, put, freed}
use Rattle.model_standby.specs.Store.{Place, place_of, is_stored, on_place, on_places, session_at, or_new, opened, changed, mark_all, taken_over}
use Rattle.model_standby.specs.State.{Settings, incarnation_of, Counters, Bound, Standby, Call, on_frame_held, on_frame, flush, disconnected_from, promote, promote_unchecked, Result, at_epoch, connected, checked_at, promoted_to, new_bound, none_held, numbered}
use Rattle.model_standby.specs.Handles.{without_others}
use Rattle.model_standby.specs.Standby.{due, follows, raised, max_whole, starts_with_reset, summed, holding}

-- what is to be done to the row: nothing; the handle gets the value, at its own place or the first free one; the same, once no other handle has the
-- value's session; all places free
pub data Action : Type 0 where
  leave : Action
  store : ℕ → Bound → Action
  rebind : ℕ → Bound → Action
  clear : Action

-- the state but for the row
pub record Core : Type 0 where
  pub counters : Counters
  pub places : List Place
  pub pending : List (ℕ × ℕ)

pub record CoreResult : Type 0 where
  pub core : Core
  pub action : Action
  pub answer : Answer

abbrev pub act : Action → Row Bound → Row Bound
act leave t = t
act (store h b) t = put h b t
act (rebind h b) t = put h b (without_others h b.place t)
act clear t = freed t

abbrev pub core_of : Standby → Core
core_of s = record { counters = s.counters; places = s.places; pending = s.pending }

-- what a core's answer makes of the row that it was asked for
abbrev pub acted : Row Bound → CoreResult → Result
acted t r = record { state = record { counters = r.core.counters; places = r.core.places; handles = act r.action t; pending = r.core.pending }; answer = r.answer }

-- ---- answers

abbrev pub core_says : Core → Action → Frame → CoreResult
core_says k a f = record { core = k; action = a; answer = reply f }

abbrev pub core_refuse : Core → Action → ℕ → CoreResult
core_refuse k a n = record { core = k; action = a; answer = refused n }

abbrev pub core_done : Core → Action → CoreResult
core_done k a = record { core = k; action = a; answer = done }

abbrev pub counting : Core → Counters → Core
counting k c = record { counters = c; places = k.places; pending = k.pending }

abbrev pub core_unbound : Core → Core
core_unbound k = record { counters = k.counters; places = k.places; pending = [] }

abbrev pub core_run : Bool → Core → Core
core_run now k = record { counters = k.counters; places = cond now (mark_all k.pending k.places) k.places; pending = cond now [] k.pending }

module _ (L : Settings) where
  unfoldable pub core_hello : Core → ℕ → ℕ → List ℕ → CoreResult
  core_hello k v e kinds =
      cond (not (is_version v)) (core_refuse k leave Refusal.bad_version)
      (cond (not (is_empty kinds)) (core_refuse k leave Refusal.kinds_listed)
      (cond (ltb e k.counters.epoch) (core_says k leave (welcome k.counters.epoch (incarnation_of L)))
      (core_says (counting (core_unbound k) (connected v e k.counters)) clear (welcome e (incarnation_of L)))))

  -- `room p` says whether the row has a place for the handle once no other handle has the session place p
  unfoldable pub core_bind : Core → (ℕ → Bool) → ℕ → ℕ → ℕ → Key → CoreResult
  core_bind k room h e lag j =
      cond (ltb e k.counters.epoch) (core_says k leave (nack h stale_epoch))
      (cond (ltb L.lag lag) (core_says k leave (nack h lag_too_great))
      (cond (not (suits k.counters.version (or_new (session_at k.places (place_of j k.places))).stamp)) (core_refuse k leave Refusal.long_stamp)
      (cond (not (is_stored j k.places || ltb (length k.places) L.S)) (core_refuse k leave Refusal.no_session_place)
      (cond (not (room (place_of j k.places))) (core_refuse k leave Refusal.no_handle_place)
      (core_says (record { counters = k.counters; places = opened j k.places; pending = k.pending }) (rebind h (new_bound (place_of j k.places)))
      (bound h (summary (or_new (session_at k.places (place_of j k.places))) lag)))))))

  unfoldable pub core_checked : Core → ℕ → ℕ → ℕ → CoreResult
  core_checked k h e i =
      cond (ltb e k.counters.epoch) (core_says k leave (nack h stale_epoch))
      (cond (not (eqb i (incarnation_of L))) (core_says k leave (nack h restarted))
      (core_says (counting k (checked_at e k.counters)) leave (ack h 0)))

  unfoldable pub core_settle : Core → ℕ → Bound → ℕ → List Change → CoreResult
  core_settle k h b n cs =
      cond (fits (or_new (session_at k.places b.place)).next_out cs)
      (core_says (record { counters = k.counters; places = on_place b.place (changed L.C L.M cs) k.places; pending = k.pending ++ ((h, b.place) ∷ []) }) (store h (numbered n b)) (ack h n))
      (core_says k (store h b) (nack h diverged))

  unfoldable pub core_hold : Core → ℕ → Bound → List Change → CoreResult → CoreResult
  core_hold k h b cs go =
      cond (is_empty b.held && not (starts_with_reset cs)) (core_refuse k leave Refusal.no_reset)
      (cond (ltb max_whole (raised b cs)) (core_refuse k (store h (summed b cs)) Refusal.too_many_bytes)
      (cond (ltb L.room (sizes (b.held ++ cs))) (core_refuse k leave Refusal.hold_area_full) go))

  unfoldable pub core_part : Core → ℕ → Bound → ℕ → Part → List Change → CoreResult
  core_part k h b n commit cs = cond (not (is_empty b.held)) (core_refuse k leave Refusal.changes_held) (core_settle k h b n cs)
  core_part k h b n whole cs = core_hold k h b cs (core_says k (store h (holding b n cs)) (ack h n))
  core_part k h b n last_whole cs = core_hold k h b cs (core_settle k h (none_held b) n (b.held ++ cs))

  unfoldable pub core_handle : Core → ℕ → Option Bound → ℕ → Part → List Change → CoreResult
  core_handle k h none n p cs = core_refuse k leave Refusal.unbound
  core_handle k h (some b) n p cs = cond (follows b n) (core_part k h b n p cs) (core_says k (store h (none_held b)) (nack h diverged))

  unfoldable pub core_batch : Core → Option Bound → ℕ → ℕ → ℕ → Part → List Change → List AppRecord → CoreResult
  core_batch k found h e n p cs apps =
      cond (not (is_empty apps)) (core_refuse k leave Refusal.app_records)
      (cond (ltb e k.counters.epoch) (core_says k leave (nack h stale_epoch))
      (core_handle (counting k (at_epoch e k.counters)) h found n p cs))

  -- ---- the calls, with what was found for the frame's handle, and at which session places the row has room for it

  abbrev pub core_intact : Core → Option Bound → (ℕ → Bool) → Frame → CoreResult
  core_intact k found room (hello v e node kinds) = core_hello k v e kinds
  core_intact k found room (welcome e i) = core_refuse k leave Refusal.other_frame
  core_intact k found room (bind h e lag j) = core_bind k room h e lag j
  core_intact k found room (batch h e n p cs apps) = core_batch k found h e n p cs apps
  core_intact k found room (ack h n) = core_refuse k leave Refusal.other_frame
  core_intact k found room (nack h r) = core_refuse k leave Refusal.other_frame
  core_intact k found room (bound h m) = core_refuse k leave Refusal.other_frame
  core_intact k found room (checked h e i) = core_checked k h e i

  unfoldable pub core_given : Core → Option Bound → (ℕ → Bool) → Given → CoreResult
  core_given k found room (damaged n) = core_refuse k leave n
  core_given k found room (intact f) = cond k.counters.promoted (core_refuse k leave Refusal.promoted) (core_intact (core_run (due k.pending f) k) found room f)

  abbrev pub core_flushed : CoreResult → CoreResult
  core_flushed r = record { core = core_run (is_reply r.answer) r.core; action = r.action; answer = r.answer }

  abbrev pub core_promotion : Core → Core
  core_promotion k = record { counters = promoted_to k.counters; places = on_places (taken_over L.lag) k.places; pending = [] }

  unfoldable pub core_step : Core → Option Bound → (ℕ → Bool) → Call → CoreResult
  core_step k found room (on_frame_held w) = core_given k found room (given k.counters.version w)
  core_step k found room (on_frame w) = core_flushed (core_given k found room (given k.counters.version w))
  core_step k found room (flush n) = cond (not (eqb n k.counters.connections) || k.counters.promoted) (core_refuse k leave Refusal.other_connection) (core_done (core_run true k) leave)
  core_step k found room (disconnected_from n) = cond (eqb n k.counters.connections) (core_done (core_unbound k) clear) (core_done k leave)
  core_step k found room promote = cond k.counters.checked (core_done (core_promotion k) clear) (core_refuse k leave Refusal.unchecked)
  core_step k found room promote_unchecked = core_done (core_promotion k) clear

-- the handle to look up: what some version reads, the latest reads too
abbrev pub handle_of : Call → ℕ
handle_of (on_frame_held w) = handle_in (given latest w)
handle_of (on_frame w) = handle_in (given latest w)
handle_of (flush n) = 0
handle_of (disconnected_from n) = 0
handle_of promote = 0
handle_of promote_unchecked = 0
