-- The standby: each call's answer and what it leaves, in the order of document 01's "Turned down, by operation".
-- Assumes nothing.
use Rattle.std.specs.Prelude.{ℕ, suc, ◌+◌, min, List, [], ◌∷◌, ◌++◌, Bool, true, false, cond, not, ◌&&◌, ◌||◌, length, ltb, leb, eqb}
use Rattle.std.proofs.Math.Option.{Option, none, some}
use Rattle.model_text.specs.Version.{is_version}
use Rattle.model_frame.specs.Frame.{Key, Change, set_incoming, set_incoming_in_flight, set_in_flight, record_msg, record_bare, reset, set_created_at, set_marks, Part, commit, whole, last_whole, stale_epoch, diverged, lag_too_great, restarted, AppRecord, Frame, hello, welcome, bind, batch, ack, nack, bound, checked}
use Rattle.model_frame.specs.Refusal
use Rattle.model_frame.specs.Parse.{is_empty}
use Rattle.model_frame.specs.Sizes.{sizes}
use Rattle.model_session.specs.Session.{suits, fits, message_bytes, top}
use Rattle.model_session.specs.Summary.{summary}
use Rattle.model_standby.specs.Answer.{Given, damaged, intact, given, reply, refused, done, is_reply}
use Rattle.model_standby.specs.Row.{find, put, freed}
use Rattle.model_standby.specs.Store.{place_of, is_stored, on_place, on_places, session_at, or_new, opened, changed, mark_all, taken_over}
use Rattle.model_standby.specs.State.{Settings, incarnation_of, Counters, Bound, Standby, Call, on_frame_held, on_frame, flush, disconnected_from, promote, promote_unchecked, Result, at_epoch, connected, checked_at, promoted_to, new_bound, none_held, numbered}
use Rattle.model_standby.specs.Handles.{without_others, room_at}

-- ---- parts of the state

abbrev pub with_counters : Standby → Counters → Standby
with_counters s c = record { counters = c; places = s.places; handles = s.handles; pending = s.pending }

-- the handle h gets the value b
abbrev pub with_handle : Standby → ℕ → Bound → Standby
with_handle s h b = record { counters = s.counters; places = s.places; handles = put h b s.handles; pending = s.pending }

-- bindings and pending commits go
abbrev pub unbound : Standby → Standby
unbound s = record { counters = s.counters; places = s.places; handles = freed s.handles; pending = [] }

-- the session of k is there, new if it wasn't; no other handle has it, and h is bound to it anew
abbrev pub bind_to : Standby → ℕ → Key → Standby
bind_to s h k =
    record {
      counters = s.counters;
      places = opened k s.places;
      handles = put h (new_bound (place_of k s.places)) (without_others h (place_of k s.places) s.handles);
      pending = s.pending;
    }

-- ---- pending commits

-- they run, if asked
abbrev pub run_pending : Bool → Standby → Standby
run_pending now s = record { counters = s.counters; places = cond now (mark_all s.pending s.places) s.places; handles = s.handles; pending = cond now [] s.pending }

abbrev pub pends_on : ℕ → List (ℕ × ℕ) → Bool
pends_on h [] = false
pends_on h (c ∷ cs) = eqb h c.0 || pends_on h cs

-- before a Batch if 64 pend or one pends on its handle, before any other frame if one pends
abbrev pub due : List (ℕ × ℕ) → Frame → Bool
due pending (hello v e node kinds) = not (is_empty pending)
due pending (welcome e i) = not (is_empty pending)
due pending (bind h e lag k) = not (is_empty pending)
due pending (batch h e n p cs apps) = leb 64 (length pending) || pends_on h pending
due pending (ack h n) = not (is_empty pending)
due pending (nack h r) = not (is_empty pending)
due pending (bound h m) = not (is_empty pending)
due pending (checked h e i) = not (is_empty pending)

-- ---- answers

abbrev pub says : Standby → Frame → Result
says s f = record { state = s; answer = reply f }

abbrev pub refuse : Standby → ℕ → Result
refuse s n = record { state = s; answer = refused n }

-- on_frame: the pending commits run after every answered frame, a Nack too
abbrev pub flushed : Result → Result
flushed r = record { state = run_pending (is_reply r.answer) r.state; answer = r.answer }

module _ (L : Settings) where
  -- Hello: 11 version not 1 or 2, 12 kinds listed; a lower epoch is told the standby's
  unfoldable pub on_hello : Standby → ℕ → ℕ → List ℕ → Result
  on_hello s v e kinds =
      cond (not (is_version v)) (refuse s Refusal.bad_version)
      (cond (not (is_empty kinds)) (refuse s Refusal.kinds_listed)
      (cond (ltb e s.counters.epoch) (says s (welcome s.counters.epoch (incarnation_of L)))
      (says (with_counters (unbound s) (connected v e s.counters)) (welcome e (incarnation_of L)))))

  -- Bind: Nack StaleEpoch, Nack Lag, 32 the session has a stamp that the connection's version doesn't take, 20 no free session place for a new key, 21 no
  -- handle place for a new handle (the place of another handle that has the session counts as free). A refused Bind frees none
  unfoldable pub on_bind : Standby → ℕ → ℕ → ℕ → Key → Result
  on_bind s h e lag k =
      cond (ltb e s.counters.epoch) (says s (nack h stale_epoch))
      (cond (ltb L.lag lag) (says s (nack h lag_too_great))
      (cond (not (suits s.counters.version (or_new (session_at s.places (place_of k s.places))).stamp)) (refuse s Refusal.long_stamp)
      (cond (not (is_stored k s.places || ltb (length s.places) L.S)) (refuse s Refusal.no_session_place)
      (cond (not (room_at h s.handles (place_of k s.places))) (refuse s Refusal.no_handle_place)
      (says (bind_to s h k) (bound h (summary (or_new (session_at s.places (place_of k s.places))) lag)))))))

  -- Checked: Nack StaleEpoch, Nack Restarted
  unfoldable pub on_checked : Standby → ℕ → ℕ → ℕ → Result
  on_checked s h e i =
      cond (ltb e s.counters.epoch) (says s (nack h stale_epoch))
      (cond (not (eqb i (incarnation_of L))) (says s (nack h restarted))
      (says (with_counters s (checked_at e s.counters)) (ack h 0)))

-- ---- Batch

-- the commit number follows the handle's last (none follows 2^64 - 1)
abbrev pub follows : Bound → ℕ → Bool
follows b n = eqb n (suc b.number) && ltb b.number top

-- with nothing held the byte sum counts as 0. In a run from a new standby it then is 0, so that `raised` is document 01's sum: `run_raised` in proofs/Ruling
abbrev pub held_sum : Bound → ℕ
held_sum b = cond (is_empty b.held) 0 b.bytes

-- the byte sum with these changes, at most 2^64 - 1
abbrev pub raised : Bound → List Change → ℕ
raised b cs = min (held_sum b + message_bytes cs) top

abbrev pub max_whole : ℕ
max_whole = 4294967296

abbrev pub starts_with_reset : List Change → Bool
starts_with_reset [] = false
starts_with_reset (set_incoming n ∷ cs) = false
starts_with_reset (set_incoming_in_flight n f ∷ cs) = false
starts_with_reset (set_in_flight f ∷ cs) = false
starts_with_reset (record_msg q w ∷ cs) = false
starts_with_reset (record_bare q ∷ cs) = false
starts_with_reset (reset ∷ cs) = true
starts_with_reset (set_created_at t ∷ cs) = false
starts_with_reset (set_marks m ∷ cs) = false

-- a 17: the byte sum stays raised
abbrev pub summed : Bound → List Change → Bound
summed b cs = record { place = b.place; number = b.number; held = b.held; bytes = raised b cs }

-- a Whole: its changes after those held
abbrev pub holding : Bound → ℕ → List Change → Bound
holding b n cs = record { place = b.place; number = n; held = b.held ++ cs; bytes = raised b cs }

module _ (L : Settings) where
  -- the changes are applied to the handle's session, one commit is pending, the handle is b at number n
  abbrev pub applied : Standby → ℕ → Bound → ℕ → List Change → Standby
  applied s h b n cs =
      record {
        counters = s.counters;
        places = on_place b.place (changed L.C L.M cs) s.places;
        handles = put h (numbered n b) s.handles;
        pending = s.pending ++ ((h, b.place) ∷ []);
      }

  -- Commit and LastWhole last: outgoing numbers are checked before anything is applied
  unfoldable pub settle : Standby → ℕ → Bound → ℕ → List Change → Result
  settle s h b n cs =
      cond (fits (or_new (session_at s.places b.place)).next_out cs) (says (applied s h b n cs) (ack h n))
      (says (with_handle s h b) (nack h diverged))

  -- Whole, LastWhole: 16 nothing held and no Reset in front, 17 the byte sum, 18 the hold area
  unfoldable pub hold : Standby → ℕ → Bound → List Change → Result → Result
  hold s h b cs go =
      cond (is_empty b.held && not (starts_with_reset cs)) (refuse s Refusal.no_reset)
      (cond (ltb max_whole (raised b cs)) (refuse (with_handle s h (summed b cs)) Refusal.too_many_bytes)
      (cond (ltb L.room (sizes (b.held ++ cs))) (refuse s Refusal.hold_area_full) go))

  -- Commit: 15 while changes are held
  unfoldable pub on_part : Standby → ℕ → Bound → ℕ → Part → List Change → Result
  on_part s h b n commit cs = cond (not (is_empty b.held)) (refuse s Refusal.changes_held) (settle s h b n cs)
  on_part s h b n whole cs = hold s h b cs (says (with_handle s h (holding b n cs)) (ack h n))
  on_part s h b n last_whole cs = hold s h b cs (settle s h (none_held b) n (b.held ++ cs))

  -- 14 unbound; Nack Diverged for the number, which clears what is held
  unfoldable pub on_handle : Standby → ℕ → Option Bound → ℕ → Part → List Change → Result
  on_handle s h none n p cs = refuse s Refusal.unbound
  on_handle s h (some b) n p cs = cond (follows b n) (on_part s h b n p cs) (says (with_handle s h (none_held b)) (nack h diverged))

  -- Batch: 13 application records; Nack StaleEpoch; the epoch is raised, even if the Batch is then refused
  unfoldable pub on_batch : Standby → ℕ → ℕ → ℕ → Part → List Change → List AppRecord → Result
  on_batch s h e n p cs apps =
      cond (not (is_empty apps)) (refuse s Refusal.app_records)
      (cond (ltb e s.counters.epoch) (says s (nack h stale_epoch))
      (on_handle (with_counters s (at_epoch e s.counters)) h (find h s.handles) n p cs))

  -- ---- the calls

  -- others: 19
  abbrev pub on_intact : Standby → Frame → Result
  on_intact s (hello v e node kinds) = on_hello L s v e kinds
  on_intact s (welcome e i) = refuse s Refusal.other_frame
  on_intact s (bind h e lag k) = on_bind L s h e lag k
  on_intact s (batch h e n p cs apps) = on_batch s h e n p cs apps
  on_intact s (ack h n) = refuse s Refusal.other_frame
  on_intact s (nack h r) = refuse s Refusal.other_frame
  on_intact s (bound h m) = refuse s Refusal.other_frame
  on_intact s (checked h e i) = on_checked L s h e i

  -- on_frame_held: the reader's number or 26 (no commit runs for these), 10 promoted, due commits, then the frame
  unfoldable pub on_given : Standby → Given → Result
  on_given s (damaged n) = refuse s n
  on_given s (intact f) = cond s.counters.promoted (refuse s Refusal.promoted) (on_intact (run_pending (due s.pending f) s) f)

  -- promoted; bindings and pending commits go; each session is taken over
  abbrev pub promotion : Standby → Standby
  promotion s = record { counters = promoted_to s.counters; places = on_places (taken_over L.lag) s.places; handles = freed s.handles; pending = [] }

  -- a frame is read in the connection's version; flush: 22 other connection, or promoted; promote: 23 unchecked
  unfoldable pub step : Standby → Call → Result
  step s (on_frame_held w) = on_given s (given s.counters.version w)
  step s (on_frame w) = flushed (on_given s (given s.counters.version w))
  step s (flush n) = cond (not (eqb n s.counters.connections) || s.counters.promoted) (refuse s Refusal.other_connection) (record { state = run_pending true s; answer = done })
  step s (disconnected_from n) = record { state = cond (eqb n s.counters.connections) (unbound s) s; answer = done }
  step s promote = cond s.counters.checked (record { state = promotion s; answer = done }) (refuse s Refusal.unchecked)
  step s promote_unchecked = record { state = promotion s; answer = done }

  -- the state after a list of calls
  abbrev pub run : Standby → List Call → Standby
  run s [] = s
  run s (c ∷ cs) = run (step s c).state cs
