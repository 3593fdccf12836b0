-- What a call does to the row and writes into the hold areas, by its definition: where it stores, it stores the call's handle, which was found; where it binds one, it is
-- the call's, and there is a place for it; where it does not store, it writes nothing; and what was found matters for a Bind and a Batch only. Assumes nothing.
use mathlib.Core.Path.{◌≡◌, refl, sym, ap, subst, ◌∙◌}
use mathlib.Core.Bool.{Bool, true, false, cond, not, ◌&&◌, ◌||◌, true≢false}
use mathlib.Core.List.{List, ◌++◌}
use mathlib.Core.Option.{Option, none, some}
use Prim.Native.Nat.{ℕ, ◌+◌, ◌≤◌}
use lib.Dec.{eqb, ltb}
use lib.ListN.{length}
use Rattle.base_flags.specs.Flag.{is_set}
use Rattle.model_frame.specs.Frame.{Key, Change, Part, commit, whole, last_whole, stale_epoch, AppRecord, Frame, hello, welcome, bind, batch, ack, nack, bound, checked}
use Rattle.model_frame.specs.Parse.{is_empty}
use Rattle.model_frame.specs.Sizes.{sizes}
use Rattle.model_session.specs.Session.{suits, fits}
use Rattle.model_session.proofs.Basics.{none≢some}
use Rattle.store_areas.specs.declared.Shape.{Shape}
use Rattle.store_areas.specs.Areas.{places_of}
use Rattle.standby_pending.specs.Pending.{pending_of}
use Rattle.frame_stamp.specs.Versions.{version_of}
use Rattle.model_standby.proofs.Holding.{writes_inside}
use Rattle.model_standby.proofs.Factoring.{given_latest}
use Rattle.standby_state.specs.Answers.{answer_of}
use Rattle.standby_commit.specs.Settling.{StoreChange}
use Rattle.model_text.specs.Version.{latest, is_version}
use Rattle.model_standby.specs.Answer.{Given, damaged, intact, given, handle_in, accepted, is_reply}
use Rattle.model_standby.specs.Row.{is_some}
use Rattle.model_standby.specs.Store.{Place, place_of, is_stored, session_at, or_new}
use Rattle.model_standby.specs.State.{Settings, incarnation_of, Counters, Bound, Call, on_frame_held, on_frame, flush, disconnected_from, promote, promote_unchecked, at_epoch, none_held}
use Rattle.model_standby.specs.Standby.{due, follows, raised, max_whole, starts_with_reset, summed}
use Rattle.model_standby.specs.Hold.{HoldWrite, writes_part, writes_frame, writes}
use Rattle.model_standby.specs.Core.{Action, leave, store, rebind, clear, Core, CoreResult, core_says, core_refuse, counting, core_run, core_flushed, core_hello, core_bind, core_checked, core_settle, core_hold, core_part, core_handle, core_batch, core_intact, core_given, core_step}
use Rattle.standby_counters.specs.declared.Replica.{Replica}
use Rattle.standby_state.specs.declared.Answer.{Answer}
use Rattle.standby_step.specs.Steps.{has_handle, handle_by, asks, writes_by, Leaves, FrameLeaves, due_now, changes_by}

-- ---- what a call does, by what was found

abbrev pub Fit : Bool → ℕ → Option Bound → (ℕ → Bool) → Option HoldWrite → Action → Type 0
Fit asked own found room wr leave = wr ≡ none
Fit asked own found room wr (store h b) = (asked ≡ true) × ((h ≡ own) × (is_some found ≡ true))
Fit asked own found room wr (rebind h b) = (asked ≡ true) × ((h ≡ own) × ((room b.place ≡ true) × (wr ≡ none)))
Fit asked own found room wr clear = wr ≡ none

-- the same test on both sides; one that writes nothing
either : {A : Type 0} (P : A → Type 0) (b : Bool) {x y : A} → P x → P y → P (cond b x y)
either P true p q = p
either P false p q = q

-- the handle is bound, if there is a place for it
room_or : (h p : ℕ) (found : Option Bound) (room : ℕ → Bool) (x y : CoreResult) → Fit true h found room none x.action → (room p ≡ true → Fit true h found room none y.action)
    → Fit true h found room none (cond (not (room p)) x y).action
room_or h p found room x y f g = go (room p) refl
  where
    go : (t : Bool) → room p ≡ t → Fit true h found room none (cond (not t) x y).action
    go true e = g e
    go false e = f

-- what names no handle in the latest version names none in any
none_named : (version : ℕ) (w : List ℕ) → has_handle (given latest w) ≡ false → has_handle (given version w) ≡ false
none_named version w off = go (given version w) refl
  where
    go : (g : Given) → given version w ≡ g → has_handle g ≡ false
    go (damaged n) e = refl
    go (intact f) e = sym (ap has_handle (given_latest version w e)) ∙ off

-- fit, whatever is written
record Stores (h : ℕ) (b : Bound) (room : ℕ → Bool) (r : CoreResult) : Type 0 where
  any : (wr : Option HoldWrite) → Fit true h (some b) room wr r.action

stores_or : {h : ℕ} {b : Bound} {room : ℕ → Bool} (t : Bool) {x y : CoreResult} → Stores h b room x → Stores h b room y → Stores h b room (cond t x y)
stores_or true p q = p
stores_or false p q = q

module _ (L : Settings) where
  settle_fit : (k : Core) (h : ℕ) (b d : Bound) (room : ℕ → Bool) (n : ℕ) (cs : List Change) → Stores h b room (core_settle L k h d n cs)
  unfolding core_settle
  settle_fit k h b d room n cs = stores_or (fits (or_new (session_at k.places d.place)).next_out cs) (record { any = λ wr. (refl, (refl, refl)) }) (record { any = λ wr. (refl, (refl, refl)) })

  -- past the number, by 16, 17, 18
  hold_fit : (k : Core) (h : ℕ) (b : Bound) (room : ℕ → Bool) (cs : List Change) (go : CoreResult) (x : HoldWrite) → Stores h b room go
      → Fit true h (some b) room (cond (not (is_empty b.held && not (starts_with_reset cs)) && (not (ltb max_whole (raised b cs)) && not (ltb L.room (sizes (b.held ++ cs))))) (some x) none) (core_hold L k h b cs go).action
  unfolding core_hold
  hold_fit k h b room cs go x s = ways (is_empty b.held && not (starts_with_reset cs)) (ltb max_whole (raised b cs)) (ltb L.room (sizes (b.held ++ cs)))
    where
      ways : (t u v : Bool)
          → Fit true h (some b) room (cond (not t && (not u && not v)) (some x) none) (cond t (core_refuse k leave 16) (cond u (core_refuse k (store h (summed b cs)) 17) (cond v (core_refuse k leave 18) go))).action
      ways true u v = refl
      ways false true v = (refl, (refl, refl))
      ways false false true = refl
      ways false false false = s.any (some x)

  -- what follows the number, or not
  number_fit : (h : ℕ) (b : Bound) (room : ℕ → Bool) (f t : Bool) (x : HoldWrite) (y z : CoreResult) → Fit true h (some b) room (cond t (some x) none) y.action → Stores h b room z
      → Fit true h (some b) room (cond (f && t) (some x) none) (cond f y z).action
  number_fit h b room true t x y z p q = p
  number_fit h b room false t x y z p q = q.any none

  handle_fit : (k : Core) (h : ℕ) (found : Option Bound) (room : ℕ → Bool) (n : ℕ) (p : Part) (cs : List Change) → Fit true h found room (writes_part L h found n p cs) (core_handle L k h found n p cs).action
  unfolding core_handle core_part
  handle_fit k h none room n commit cs = refl
  handle_fit k h none room n whole cs = refl
  handle_fit k h none room n last_whole cs = refl
  handle_fit k h (some b) room n commit cs =
      either (λ (r : CoreResult). Fit true h (some b) room none r.action) (follows b n)
      (either (λ (r : CoreResult). Fit true h (some b) room none r.action) (not (is_empty b.held)) refl ((settle_fit k h b b room n cs).any none)) (refl, (refl, refl))
  handle_fit k h (some b) room n whole cs =
      number_fit h b room (follows b n) _ _ _ _ (hold_fit k h b room cs _ _ (record { any = λ wr. (refl, (refl, refl)) })) (record { any = λ wr. (refl, (refl, refl)) })
  handle_fit k h (some b) room n last_whole cs =
      number_fit h b room (follows b n) _ _ _ _ (hold_fit k h b room cs _ _ (settle_fit k h b (none_held b) room n (b.held ++ cs))) (record { any = λ wr. (refl, (refl, refl)) })

  batch_fit : (k : Core) (found : Option Bound) (room : ℕ → Bool) (h e n : ℕ) (p : Part) (cs : List Change) (apps : List AppRecord)
      → Fit true h found room (cond (not (is_empty apps) || ltb e k.counters.epoch) none (writes_part L h found n p cs)) (core_batch L k found h e n p cs apps).action
  unfolding core_batch
  batch_fit k found room h e n p cs apps = ways (not (is_empty apps)) (ltb e k.counters.epoch)
    where
      ways : (t u : Bool) → Fit true h found room (cond (t || u) none (writes_part L h found n p cs))
          (cond t (core_refuse k leave 13) (cond u (core_says k leave (nack h stale_epoch)) (core_handle L (counting k (at_epoch e k.counters)) h found n p cs))).action
      ways true u = refl
      ways false true = refl
      ways false false = handle_fit (counting k (at_epoch e k.counters)) h found room n p cs

  bind_fit : (k : Core) (found : Option Bound) (room : ℕ → Bool) (h e lag : ℕ) (j : Key) → Fit true h found room none (core_bind L k room h e lag j).action
  unfolding core_bind
  bind_fit k found room h e lag j =
      either (λ (r : CoreResult). Fit true h found room none r.action) (ltb e k.counters.epoch) refl
      (either (λ (r : CoreResult). Fit true h found room none r.action) (ltb L.lag lag) refl
      (either (λ (r : CoreResult). Fit true h found room none r.action) (not (suits k.counters.version (or_new (session_at k.places (place_of j k.places))).stamp)) refl
      (either (λ (r : CoreResult). Fit true h found room none r.action) (not (is_stored j k.places || ltb (length k.places) L.S)) refl
      (room_or h (place_of j k.places) found room _ _ refl (λ e. (refl, (refl, (e, refl))))))))

  hello_fit : (k : Core) (found : Option Bound) (room : ℕ → Bool) (v e : ℕ) (kinds : List ℕ) → Fit false 0 found room none (core_hello L k v e kinds).action
  unfolding core_hello
  hello_fit k found room v e kinds =
      either (λ (r : CoreResult). Fit false 0 found room none r.action) (not (is_version v)) refl
      (either (λ (r : CoreResult). Fit false 0 found room none r.action) (not (is_empty kinds)) refl
      (either (λ (r : CoreResult). Fit false 0 found room none r.action) (ltb e k.counters.epoch) refl refl))

  checked_fit : (k : Core) (found : Option Bound) (room : ℕ → Bool) (h e i : ℕ) → Fit false 0 found room none (core_checked L k h e i).action
  unfolding core_checked
  checked_fit k found room h e i =
      either (λ (r : CoreResult). Fit false 0 found room none r.action) (ltb e k.counters.epoch) refl
      (either (λ (r : CoreResult). Fit false 0 found room none r.action) (not (eqb i (incarnation_of L))) refl refl)

  intact_fit : (k : Core) (found : Option Bound) (room : ℕ → Bool) (f : Frame) → Fit (has_handle (intact f)) (handle_in (intact f)) found room (writes_frame L k.counters found f) (core_intact L k found room f).action
  intact_fit k found room (hello v e node kinds) = hello_fit k found room v e kinds
  intact_fit k found room (welcome e i) = refl
  intact_fit k found room (bind h e lag j) = bind_fit k found room h e lag j
  intact_fit k found room (batch h e n p cs apps) = batch_fit k found room h e n p cs apps
  intact_fit k found room (ack h n) = refl
  intact_fit k found room (nack h r) = refl
  intact_fit k found room (bound h m) = refl
  intact_fit k found room (checked h e i) = checked_fit k found room h e i

  given_fit : (k : Core) (found : Option Bound) (room : ℕ → Bool) (g : Given) → Fit (has_handle g) (handle_in g) found room (writes L k.counters found g) (core_given L k found room g).action
  unfolding writes core_given
  given_fit k found room (damaged n) = refl
  given_fit k found room (intact f) = ways k.counters.promoted
    where
      ways : (t : Bool) → Fit (has_handle (intact f)) (handle_in (intact f)) found room (cond t none (writes_frame L k.counters found f)) (cond t (core_refuse k leave 10) (core_intact L (core_run (due k.pending f) k) found room f)).action
      ways true = refl
      ways false = intact_fit (core_run (due k.pending f) k) found room f

  -- with the handle that the latest version reads
  frame_fit : (k : Core) (found : Option Bound) (room : ℕ → Bool) (w : List ℕ)
      → Fit (has_handle (given latest w)) (handle_in (given latest w)) found room (writes L k.counters found (given k.counters.version w)) (core_given L k found room (given k.counters.version w)).action
  unfolding writes core_given
  frame_fit k found room w = go (given k.counters.version w) refl
    where
      go : (g : Given) → given k.counters.version w ≡ g → Fit (has_handle (given latest w)) (handle_in (given latest w)) found room (writes L k.counters found g) (core_given L k found room g).action
      go (damaged n) e = refl
      go (intact f) e =
          subst (λ (g : Given). Fit (has_handle g) (handle_in g) found room (writes L k.counters found (intact f)) (core_given L k found room (intact f)).action) (sym (given_latest k.counters.version w e)) (given_fit k found room (intact f))

  -- every call
  pub step_fit : (k : Core) (found : Option Bound) (room : ℕ → Bool) (c : Call) → Fit (asks c) (handle_by c) found room (writes_by L k.counters found c) (core_step L k found room c).action
  unfolding core_step
  step_fit k found room (on_frame_held w) = frame_fit k found room w
  step_fit k found room (on_frame w) = frame_fit k found room w
  step_fit k found room (flush n) = either (λ (r : CoreResult). Fit false 0 found room none r.action) (not (eqb n k.counters.connections) || k.counters.promoted) refl refl
  step_fit k found room (disconnected_from n) = either (λ (r : CoreResult). Fit false 0 found room none r.action) (eqb n k.counters.connections) refl refl
  step_fit k found room promote = either (λ (r : CoreResult). Fit false 0 found room none r.action) k.counters.checked refl refl
  step_fit k found room promote_unchecked = refl

  -- ---- a call without a handle

  given_any : (k : Core) (x y : Option Bound) (p q : ℕ → Bool) (g : Given) → has_handle g ≡ false → core_given L k x p g ≡ core_given L k y q g
  unfolding core_given
  given_any k x y p q (damaged n) e = refl
  given_any k x y p q (intact (hello v e₁ node kinds)) e = refl
  given_any k x y p q (intact (welcome e₁ i)) e = refl
  given_any k x y p q (intact (bind h e₁ lag j)) e = absurd (true≢false e)
  given_any k x y p q (intact (batch h e₁ n part cs apps)) e = absurd (true≢false e)
  given_any k x y p q (intact (ack h n)) e = refl
  given_any k x y p q (intact (nack h r)) e = refl
  given_any k x y p q (intact (bound h m)) e = refl
  given_any k x y p q (intact (checked h e₁ i)) e = refl

  pub step_any : (k : Core) (x y : Option Bound) (p q : ℕ → Bool) (c : Call) → asks c ≡ false → core_step L k x p c ≡ core_step L k y q c
  unfolding core_step
  step_any k x y p q (on_frame_held w) e = given_any k x y p q (given k.counters.version w) (none_named k.counters.version w e)
  step_any k x y p q (on_frame w) e = ap (core_flushed L) (given_any k x y p q (given k.counters.version w) (none_named k.counters.version w e))
  step_any k x y p q (flush n) e = refl
  step_any k x y p q (disconnected_from n) e = refl
  step_any k x y p q promote e = refl
  step_any k x y p q promote_unchecked e = refl

  given_none : (c : Counters) (x : Option Bound) (g : Given) → has_handle g ≡ false → writes L c x g ≡ none
  unfolding writes
  given_none c x (damaged n) e = refl
  given_none c x (intact (hello v e₁ node kinds)) e = either (λ (o : Option HoldWrite). o ≡ none) c.promoted refl refl
  given_none c x (intact (welcome e₁ i)) e = either (λ (o : Option HoldWrite). o ≡ none) c.promoted refl refl
  given_none c x (intact (bind h e₁ lag j)) e = absurd (true≢false e)
  given_none c x (intact (batch h e₁ n p cs apps)) e = absurd (true≢false e)
  given_none c x (intact (ack h n)) e = either (λ (o : Option HoldWrite). o ≡ none) c.promoted refl refl
  given_none c x (intact (nack h r)) e = either (λ (o : Option HoldWrite). o ≡ none) c.promoted refl refl
  given_none c x (intact (bound h m)) e = either (λ (o : Option HoldWrite). o ≡ none) c.promoted refl refl
  given_none c x (intact (checked h e₁ i)) e = either (λ (o : Option HoldWrite). o ≡ none) c.promoted refl refl

  pub writes_none : (c : Counters) (x : Option Bound) (call : Call) → asks call ≡ false → writes_by L c x call ≡ none
  writes_none c x (on_frame_held w) e = given_none c x (given c.version w) (none_named c.version w e)
  writes_none c x (on_frame w) e = given_none c x (given c.version w) (none_named c.version w e)
  writes_none c x (flush n) e = refl
  writes_none c x (disconnected_from n) e = refl
  writes_none c x promote e = refl
  writes_none c x promote_unchecked e = refl

  -- nothing is written outside the handle's area
  pub written_inside : (c : Counters) (x : Option Bound) (call : Call) (r : HoldWrite) → writes_by L c x call ≡ some r → r.offset + length r.bytes ≤ L.room
  written_inside c x (on_frame_held w) r e = writes_inside L c x (given c.version w) r e
  written_inside c x (on_frame w) r e = writes_inside L c x (given c.version w) r e
  written_inside c x (flush n) r e = absurd (none≢some e)
  written_inside c x (disconnected_from n) r e = absurd (none≢some e)
  written_inside c x promote r e = absurd (none≢some e)
  written_inside c x promote_unchecked r e = absurd (none≢some e)

changes_any : (ps : List Place) (p q : ℕ) (g : Given) (taken : Bool) → has_handle g ≡ false → changes_by ps p g taken ≡ changes_by ps q g taken
changes_any ps p q (damaged n) taken e = refl
changes_any ps p q (intact (hello v e₁ node kinds)) taken e = refl
changes_any ps p q (intact (welcome e₁ i)) taken e = refl
changes_any ps p q (intact (bind h e₁ lag k)) taken e = refl
changes_any ps p q (intact (batch h e₁ n part cs apps)) taken e = absurd (true≢false e)
changes_any ps p q (intact (ack h n)) taken e = refl
changes_any ps p q (intact (nack h r)) taken e = refl
changes_any ps p q (intact (bound h m)) taken e = refl
changes_any ps p q (intact (checked h e₁ i)) taken e = refl

pub leaves_any : (s : Shape) (c : Replica) (p q : ℕ) (call : Call) (w w' b b' : List ℕ) (a : Answer) → asks call ≡ false → Leaves s c p call w w' b b' a → Leaves s c q call w w' b b' a
leaves_any s c p q (on_frame_held f) w w' b b' a e l =
    subst (λ (x : StoreChange). FrameLeaves s x (due_now (is_set c.promoted) (pending_of w) (given (version_of c.version2) f)) false w w' b b')
    (changes_any (places_of s w b) p q (given (version_of c.version2) f) (accepted (answer_of b' a)) (none_named (version_of c.version2) f e)) l
leaves_any s c p q (on_frame f) w w' b b' a e l =
    subst (λ (x : StoreChange). FrameLeaves s x (due_now (is_set c.promoted) (pending_of w) (given (version_of c.version2) f)) (is_reply (answer_of b' a)) w w' b b')
    (changes_any (places_of s w b) p q (given (version_of c.version2) f) (accepted (answer_of b' a)) (none_named (version_of c.version2) f e)) l
leaves_any s c p q (flush n) w w' b b' a e l = l
leaves_any s c p q (disconnected_from n) w w' b b' a e l = l
leaves_any s c p q promote w w' b b' a e l = l
leaves_any s c p q promote_unchecked w w' b b' a e l = l
