-- The calls cut as the code cuts them are the calls: look up one handle, let the core answer, do to the row what it says.
-- Assumes nothing.
use mathlib.Core.Path.{◌≡◌, refl, sym, ap, ◌∙◌}
use Prim.Native.Nat.{ℕ}
use mathlib.Core.List.{List, ◌++◌}
use mathlib.Core.Option.{Option, none, some}
use mathlib.Core.Bool.{Bool, true, false, cond, not, ◌&&◌, ◌||◌}
use lib.ListN.{length}
use lib.Dec.{ltb, eqb}
use Rattle.model_text.specs.Version.{latest, is_version}
use Rattle.model_frame.specs.Frame.{Key, Change, Part, commit, whole, last_whole, AppRecord, Frame, hello, welcome, bind, batch, ack, nack, bound, checked, Decoded, more, faulty, got}
use Rattle.model_frame.specs.Reading.{decode}
use Rattle.model_frame.proofs.Wider.{decode_wider}
use Rattle.model_frame.specs.Parse.{is_empty}
use Rattle.model_frame.specs.Sizes.{sizes}
use Rattle.model_session.specs.Session.{suits, fits}
use Rattle.model_standby.specs.Answer.{Given, damaged, intact, judged, given, handle_in, done}
use Rattle.model_standby.specs.Row.{Row, find}
use Rattle.model_standby.specs.Store.{place_of, is_stored, session_at, or_new}
use Rattle.model_standby.specs.State.{Settings, incarnation_of, Bound, Standby, Result, Call, on_frame_held, on_frame, flush, disconnected_from, promote, promote_unchecked, at_epoch, none_held}
use Rattle.model_standby.specs.Handles.{room_at}
use Rattle.model_standby.specs.Standby.{with_counters, unbound, run_pending, due, on_hello, on_bind, on_checked, follows, raised, max_whole, starts_with_reset, settle, hold, on_part, on_handle, on_batch, on_intact, on_given, flushed, step}
use Rattle.model_standby.specs.Core.{CoreResult, leave, clear, core_done, core_unbound, core_of, acted, core_hello, core_bind, core_checked, core_settle, core_hold, core_part, core_handle, core_batch, core_intact, core_given, core_step, handle_of}

-- what is left and answered is what the core's answer makes of the row
record Acts (t : Row Bound) (x : Result) (u : CoreResult) : Type 0 where
  same : x ≡ acted t u

-- the same test on both sides
either : (t : Row Bound) (b : Bool) {x y : Result} {u v : CoreResult} → Acts t x u → Acts t y v → Acts t (cond b x y) (cond b u v)
either t true p q = p
either t false p q = q

module _ (L : Settings) (s : Standby) where
  hello_acted : (v e : ℕ) (kinds : List ℕ) → Acts s.handles (on_hello L s v e kinds) (core_hello L (core_of s) v e kinds)
  unfolding on_hello core_hello
  hello_acted v e kinds =
      either s.handles (not (is_version v)) (record { same = refl })
      (either s.handles (not (is_empty kinds)) (record { same = refl })
      (either s.handles (ltb e s.counters.epoch) (record { same = refl }) (record { same = refl })))

  bind_acted : (h e lag : ℕ) (j : Key) → Acts s.handles (on_bind L s h e lag j) (core_bind L (core_of s) (room_at h s.handles) h e lag j)
  unfolding on_bind core_bind
  bind_acted h e lag j =
      either s.handles (ltb e s.counters.epoch) (record { same = refl })
      (either s.handles (ltb L.lag lag) (record { same = refl })
      (either s.handles (not (suits s.counters.version (or_new (session_at s.places (place_of j s.places))).stamp)) (record { same = refl })
      (either s.handles (not (is_stored j s.places || ltb (length s.places) L.S)) (record { same = refl })
      (either s.handles (not (room_at h s.handles (place_of j s.places))) (record { same = refl }) (record { same = refl })))))

  checked_acted : (h e i : ℕ) → Acts s.handles (on_checked L s h e i) (core_checked L (core_of s) h e i)
  unfolding on_checked core_checked
  checked_acted h e i =
      either s.handles (ltb e s.counters.epoch) (record { same = refl })
      (either s.handles (not (eqb i (incarnation_of L))) (record { same = refl }) (record { same = refl }))

  settle_acted : (h : ℕ) (b : Bound) (n : ℕ) (cs : List Change) → Acts s.handles (settle L s h b n cs) (core_settle L (core_of s) h b n cs)
  unfolding settle core_settle
  settle_acted h b n cs = either s.handles (fits (or_new (session_at s.places b.place)).next_out cs) (record { same = refl }) (record { same = refl })

  hold_acted : (h : ℕ) (b : Bound) (cs : List Change) {go : Result} {core : CoreResult} → Acts s.handles go core → Acts s.handles (hold L s h b cs go) (core_hold L (core_of s) h b cs core)
  unfolding hold core_hold
  hold_acted h b cs p =
      either s.handles (is_empty b.held && not (starts_with_reset cs)) (record { same = refl })
      (either s.handles (ltb max_whole (raised b cs)) (record { same = refl })
      (either s.handles (ltb L.room (sizes (b.held ++ cs))) (record { same = refl }) p))

  part_acted : (h : ℕ) (b : Bound) (n : ℕ) (p : Part) (cs : List Change) → Acts s.handles (on_part L s h b n p cs) (core_part L (core_of s) h b n p cs)
  unfolding on_part core_part
  part_acted h b n commit cs = either s.handles (not (is_empty b.held)) (record { same = refl }) (settle_acted h b n cs)
  part_acted h b n whole cs = hold_acted h b cs (record { same = refl })
  part_acted h b n last_whole cs = hold_acted h b cs (settle_acted h (none_held b) n (b.held ++ cs))

  handle_acted : (h : ℕ) (o : Option Bound) (n : ℕ) (p : Part) (cs : List Change) → Acts s.handles (on_handle L s h o n p cs) (core_handle L (core_of s) h o n p cs)
  unfolding on_handle core_handle
  handle_acted h none n p cs = record { same = refl }
  handle_acted h (some b) n p cs = either s.handles (follows b n) (part_acted h b n p cs) (record { same = refl })

-- a frame that is read is read in the latest version too
pub given_latest : (version : ℕ) (w : List ℕ) {f : Frame} → given version w ≡ intact f → given latest w ≡ intact f
unfolding given
given_latest version w {f} = go (decode version w) refl
  where
    go : (d : Decoded) → decode version w ≡ d → judged (length w) d ≡ intact f → judged (length w) (decode latest w) ≡ intact f
    go more p e = cc
    go (faulty x) p e = cc
    go (got g n) p e = ap (judged (length w)) (decode_wider version w p) ∙ e

module _ (L : Settings) where
  batch_acted : (s : Standby) (h e n : ℕ) (p : Part) (cs : List Change) (apps : List AppRecord) → Acts s.handles (on_batch L s h e n p cs apps) (core_batch L (core_of s) (find h s.handles) h e n p cs apps)
  unfolding on_batch core_batch
  batch_acted s h e n p cs apps =
      either s.handles (not (is_empty apps)) (record { same = refl })
      (either s.handles (ltb e s.counters.epoch) (record { same = refl }) (handle_acted L (with_counters s (at_epoch e s.counters)) h (find h s.handles) n p cs))

  intact_acted : (s : Standby) (f : Frame) → Acts s.handles (on_intact L s f) (core_intact L (core_of s) (find (handle_in (intact f)) s.handles) (room_at (handle_in (intact f)) s.handles) f)
  intact_acted s (hello v e node kinds) = hello_acted L s v e kinds
  intact_acted s (welcome e i) = record { same = refl }
  intact_acted s (bind h e lag k) = bind_acted L s h e lag k
  intact_acted s (batch h e n p cs apps) = batch_acted s h e n p cs apps
  intact_acted s (ack h n) = record { same = refl }
  intact_acted s (nack h r) = record { same = refl }
  intact_acted s (bound h m) = record { same = refl }
  intact_acted s (checked h e i) = checked_acted L s h e i

  acts_given : (s : Standby) (g : Given) → Acts s.handles (on_given L s g) (core_given L (core_of s) (find (handle_in g) s.handles) (room_at (handle_in g) s.handles) g)
  unfolding on_given core_given
  acts_given s (damaged n) = record { same = refl }
  acts_given s (intact f) = either s.handles s.counters.promoted (record { same = refl }) (intact_acted (run_pending (due s.pending f) s) f)

  -- a frame
  pub given_factored : (s : Standby) (g : Given) → on_given L s g ≡ acted s.handles (core_given L (core_of s) (find (handle_in g) s.handles) (room_at (handle_in g) s.handles) g)
  given_factored s g = (acts_given s g).same

  -- the handle that the latest version reads is that of the connection's, if this one reads a frame
  looked : (s : Standby) (w : List ℕ) →
      core_given L (core_of s) (find (handle_in (given latest w)) s.handles) (room_at (handle_in (given latest w)) s.handles) (given s.counters.version w)
      ≡ core_given L (core_of s) (find (handle_in (given s.counters.version w)) s.handles) (room_at (handle_in (given s.counters.version w)) s.handles) (given s.counters.version w)
  unfolding core_given
  looked s w = go (given s.counters.version w) refl
    where
      go : (g : Given) → given s.counters.version w ≡ g →
          core_given L (core_of s) (find (handle_in (given latest w)) s.handles) (room_at (handle_in (given latest w)) s.handles) g
          ≡ core_given L (core_of s) (find (handle_in g) s.handles) (room_at (handle_in g) s.handles) g
      go (damaged n) e = refl
      go (intact f) e = ap (λ (g : Given). core_given L (core_of s) (find (handle_in g) s.handles) (room_at (handle_in g) s.handles) (intact f)) (given_latest s.counters.version w e)

  step_given : (s : Standby) (w : List ℕ) →
      on_given L s (given s.counters.version w)
      ≡ acted s.handles (core_given L (core_of s) (find (handle_in (given latest w)) s.handles) (room_at (handle_in (given latest w)) s.handles) (given s.counters.version w))
  step_given s w = given_factored s (given s.counters.version w) ∙ ap (acted s.handles) (sym (looked s w))

  acts_step : (s : Standby) (c : Call) → Acts s.handles (step L s c) (core_step L (core_of s) (find (handle_of c) s.handles) (room_at (handle_of c) s.handles) c)
  unfolding step core_step
  acts_step s (on_frame_held w) = record { same = step_given s w }
  acts_step s (on_frame w) = record { same = ap flushed (step_given s w) }
  acts_step s (flush n) = either s.handles (not (eqb n s.counters.connections) || s.counters.promoted) (record { same = refl }) (record { same = refl })
  acts_step s (disconnected_from n) = go (eqb n s.counters.connections)
    where
      go : (b : Bool) → Acts s.handles (record { state = cond b (unbound s) s; answer = done }) (cond b (core_done (core_unbound (core_of s)) clear) (core_done (core_of s) leave))
      go true = record { same = refl }
      go false = record { same = refl }
  acts_step s promote = either s.handles s.counters.checked (record { same = refl }) (record { same = refl })
  acts_step s promote_unchecked = record { same = refl }

  -- every call
  pub factored : (s : Standby) (c : Call) → step L s c ≡ acted s.handles (core_step L (core_of s) (find (handle_of c) s.handles) (room_at (handle_of c) s.handles) c)
  factored s c = (acts_step s c).same
