-- What a frame can do to an unpromoted standby once due commits have run: the cases, each with what was found on the way. The
-- definitions are walked once, here.
-- Assumes nothing.
use mathlib.Core.Path.{◌≡◌, refl}
use Prim.Native.Nat.{ℕ, ◌≤◌, ◌<◌}
use mathlib.Core.List.{List, [], ◌∷◌, ◌++◌}
use mathlib.Core.Option.{Option, none, some}
use mathlib.Core.Bool.{Bool, true, false, not, ◌&&◌, ◌||◌}
use lib.ListN.{length}
use lib.Dec.{T, ltb, eqb, ltb→lt, nltb→le}
use Rattle.model_text.specs.Version.{is_version}
use Rattle.model_frame.specs.Frame.{Key, Change, Part, commit, whole, last_whole, Reason, stale_epoch, diverged, lag_too_great, restarted, AppRecord, Frame, hello, welcome, bind, batch, ack, nack, bound, checked}
use Rattle.model_frame.specs.Parse.{is_empty}
use Rattle.model_frame.specs.Sizes.{sizes}
use Rattle.model_session.specs.Session.{suits, fits}
use Rattle.model_session.specs.Summary.{summary}
use Rattle.model_session.proofs.Basics.{T→true, cond_cases}
use Rattle.model_standby.specs.Row.{find}
use Rattle.model_standby.specs.Store.{place_of, is_stored, session_at, or_new}
use Rattle.model_standby.specs.State.{Settings, incarnation_of, Bound, Standby, Result, at_epoch, connected, checked_at, none_held}
use Rattle.model_standby.specs.Handles.{room_at}
use Rattle.model_standby.specs.Standby.{with_counters, with_handle, unbound, bind_to, says, refuse, on_hello, on_bind, on_checked, follows, raised, max_whole, starts_with_reset, summed, holding, applied, settle, hold, on_part, on_handle, on_batch, on_intact}
use Rattle.model_standby.specs.Demand.{is_outside}

pub not_not : (b : Bool) → T (not (not b)) → b ≡ true
not_not true u = refl
not_not false u = absurd u

pub empty_nil : {A : Type 0} (l : List A) → T (not (not (is_empty l))) → l ≡ []
empty_nil [] u = refl
empty_nil (x ∷ l) u = absurd u

-- a Nack to a frame on this handle that isn't Diverged
pub data Nacked : Frame → ℕ → Reason → Type 0 where
  stale_bind : {h e lag : ℕ} {k : Key} → Nacked (bind h e lag k) h stale_epoch
  lag_bind : {h e lag : ℕ} {k : Key} → Nacked (bind h e lag k) h lag_too_great
  stale_batch : {h e n : ℕ} {p : Part} {cs : List Change} {apps : List AppRecord} → Nacked (batch h e n p cs apps) h stale_epoch
  stale_checked : {h e i : ℕ} → Nacked (checked h e i) h stale_epoch
  other_checked : {h e i : ℕ} → Nacked (checked h e i) h restarted

module _ (L : Settings) where
  -- what passes 16 to 18
  pub record Passes (b : Bound) (cs : List Change) : Type 0 where
    pub begins : T (not (is_empty b.held && not (starts_with_reset cs)))
    pub few : raised b cs ≤ max_whole
    pub small : sizes (b.held ++ cs) ≤ L.room

  -- what a Commit or a LastWhole is to apply, and what its handle then is
  pub data Gathers : Part → Bound → List Change → Bound → List Change → Type 0 where
    of_commit : {b : Bound} {cs : List Change} → b.held ≡ [] → Gathers commit b cs b cs
    of_last : {b : Bound} {cs : List Change} → Passes b cs → Gathers last_whole b cs (none_held b) (b.held ++ cs)

  -- its session stays
  pub gathers_place : {p : Part} {b b₁ : Bound} {cs all : List Change} → Gathers p b cs b₁ all → b₁.place ≡ b.place
  gathers_place (of_commit e) = refl
  gathers_place (of_last q) = refl

  -- a Batch that is neither stale nor has application records, at the epoch that it raised
  pub data Batches (s : Standby) (h n : ℕ) (p : Part) (cs : List Change) : Result → Type 0 where
    -- 14, 15, 16, 18
    refuses : {m : ℕ} → T (not (is_outside m)) → Batches s h n p cs (refuse s m)
    -- a wrong number
    clears : {b : Bound} → find h s.handles ≡ some b → Batches s h n p cs (says (with_handle s h (none_held b)) (nack h diverged))
    -- 17
    raises : {b : Bound} → find h s.handles ≡ some b → max_whole < raised b cs → Batches s h n p cs (refuse (with_handle s h (summed b cs)) 17)
    holds : {b : Bound} → find h s.handles ≡ some b → p ≡ whole → Passes b cs → Batches s h n p cs (says (with_handle s h (holding b n cs)) (ack h n))
    applies : {b b₁ : Bound} {all : List Change} → find h s.handles ≡ some b → Gathers p b cs b₁ all → fits (or_new (session_at s.places b₁.place)).next_out all ≡ true
        → Batches s h n p cs (says (applied L s h b₁ n all) (ack h n))
    diverges : {b b₁ : Bound} {all : List Change} → find h s.handles ≡ some b → Gathers p b cs b₁ all → Batches s h n p cs (says (with_handle s h b₁) (nack h diverged))

  pub data Does (s : Standby) : Frame → Result → Type 0 where
    -- nothing changes: a refusal outside 14 to 18, a lower Hello, a Nack
    turns : {f : Frame} {n : ℕ} → T (is_outside n) → Does s f (refuse s n)
    tells : {v e : ℕ} {node kinds : List ℕ} → Does s (hello v e node kinds) (says s (welcome s.counters.epoch (incarnation_of L)))
    nacks : {f : Frame} {h : ℕ} {r : Reason} → Nacked f h r → Does s f (says s (nack h r))
    -- not stale
    greets : {v e : ℕ} {node kinds : List ℕ} → s.counters.epoch ≤ e → Does s (hello v e node kinds) (says (with_counters (unbound s) (connected v e s.counters)) (welcome e (incarnation_of L)))
    binds : {h e lag : ℕ} {k : Key} → s.counters.epoch ≤ e → suits s.counters.version (or_new (session_at s.places (place_of k s.places))).stamp ≡ true
        → (is_stored k s.places || ltb (length s.places) L.S) ≡ true → room_at h s.handles (place_of k s.places) ≡ true
        → Does s (bind h e lag k) (says (bind_to s h k) (bound h (summary (or_new (session_at s.places (place_of k s.places))) lag)))
    checks : {h e i : ℕ} → s.counters.epoch ≤ e → Does s (checked h e i) (says (with_counters s (checked_at e s.counters)) (ack h 0))
    batches : {h e n : ℕ} {p : Part} {cs : List Change} {apps : List AppRecord} {r : Result} → s.counters.epoch ≤ e → Batches (with_counters s (at_epoch e s.counters)) h n p cs r → Does s (batch h e n p cs apps) r

  -- ---- the walk

  does_hello : (s : Standby) (v e : ℕ) (node kinds : List ℕ) → Does s (hello v e node kinds) (on_hello L s v e kinds)
  unfolding on_hello
  does_hello s v e node kinds =
      cond_cases (Does s (hello v e node kinds)) (not (is_version v)) (λ _. turns tt)
      (λ _. cond_cases (Does s (hello v e node kinds)) (not (is_empty kinds)) (λ _. turns tt)
      (λ _. cond_cases (Does s (hello v e node kinds)) (ltb e s.counters.epoch) (λ _. tells) (λ t. greets (nltb→le e s.counters.epoch t))))

  does_bind : (s : Standby) (h e lag : ℕ) (k : Key) → Does s (bind h e lag k) (on_bind L s h e lag k)
  unfolding on_bind
  does_bind s h e lag k =
      cond_cases (Does s (bind h e lag k)) (ltb e s.counters.epoch) (λ _. nacks stale_bind)
      (λ t. cond_cases (Does s (bind h e lag k)) (ltb L.lag lag) (λ _. nacks lag_bind)
      (λ _. cond_cases (Does s (bind h e lag k)) (not (suits s.counters.version (or_new (session_at s.places (place_of k s.places))).stamp)) (λ _. turns tt)
      (λ y. cond_cases (Does s (bind h e lag k)) (not (is_stored k s.places || ltb (length s.places) L.S)) (λ _. turns tt)
      (λ u. cond_cases (Does s (bind h e lag k)) (not (room_at h s.handles (place_of k s.places))) (λ _. turns tt)
      (λ v. binds (nltb→le e s.counters.epoch t) (not_not (suits s.counters.version (or_new (session_at s.places (place_of k s.places))).stamp) y) (not_not (is_stored k s.places || ltb (length s.places) L.S) u) (not_not (room_at h s.handles (place_of k s.places)) v))))))

  does_checked : (s : Standby) (h e i : ℕ) → Does s (checked h e i) (on_checked L s h e i)
  unfolding on_checked
  does_checked s h e i =
      cond_cases (Does s (checked h e i)) (ltb e s.counters.epoch) (λ _. nacks stale_checked)
      (λ t. cond_cases (Does s (checked h e i)) (not (eqb i (incarnation_of L))) (λ _. nacks other_checked) (λ _. checks (nltb→le e s.counters.epoch t)))

  does_settle : (s : Standby) (h n : ℕ) (p : Part) (cs : List Change) (b b₁ : Bound) (all : List Change) → find h s.handles ≡ some b → Gathers p b cs b₁ all → Batches s h n p cs (settle L s h b₁ n all)
  unfolding settle
  does_settle s h n p cs b b₁ all f g =
      cond_cases (Batches s h n p cs) (fits (or_new (session_at s.places b₁.place)).next_out all) (λ t. applies f g (T→true (fits (or_new (session_at s.places b₁.place)).next_out all) t)) (λ _. diverges f g)

  does_hold : (s : Standby) (h n : ℕ) (p : Part) (cs : List Change) (b : Bound) (go : Result) → find h s.handles ≡ some b → (Passes b cs → Batches s h n p cs go) → Batches s h n p cs (hold L s h b cs go)
  unfolding hold
  does_hold s h n p cs b go f k =
      cond_cases (Batches s h n p cs) (is_empty b.held && not (starts_with_reset cs)) (λ _. refuses tt)
      (λ t. cond_cases (Batches s h n p cs) (ltb max_whole (raised b cs)) (λ u. raises f (ltb→lt max_whole (raised b cs) u))
      (λ u. cond_cases (Batches s h n p cs) (ltb L.room (sizes (b.held ++ cs))) (λ _. refuses tt)
      (λ v. k (record { begins = t; few = nltb→le max_whole (raised b cs) u; small = nltb→le L.room (sizes (b.held ++ cs)) v }))))

  does_part : (s : Standby) (h n : ℕ) (p : Part) (cs : List Change) (b : Bound) → find h s.handles ≡ some b → Batches s h n p cs (on_part L s h b n p cs)
  unfolding on_part
  does_part s h n commit cs b f =
      cond_cases (Batches s h n commit cs) (not (is_empty b.held)) (λ _. refuses tt) (λ t. does_settle s h n commit cs b b cs f (of_commit (empty_nil b.held t)))
  does_part s h n whole cs b f = does_hold s h n whole cs b _ f (λ q. holds f refl q)
  does_part s h n last_whole cs b f = does_hold s h n last_whole cs b _ f (λ q. does_settle s h n last_whole cs b (none_held b) (b.held ++ cs) f (of_last q))

  does_handle : (s : Standby) (h n : ℕ) (p : Part) (cs : List Change) (o : Option Bound) → find h s.handles ≡ o → Batches s h n p cs (on_handle L s h o n p cs)
  unfolding on_handle
  does_handle s h n p cs none f = refuses tt
  does_handle s h n p cs (some b) f = cond_cases (Batches s h n p cs) (follows b n) (λ _. does_part s h n p cs b f) (λ _. clears f)

  does_batch : (s : Standby) (h e n : ℕ) (p : Part) (cs : List Change) (apps : List AppRecord) → Does s (batch h e n p cs apps) (on_batch L s h e n p cs apps)
  unfolding on_batch
  does_batch s h e n p cs apps =
      cond_cases (Does s (batch h e n p cs apps)) (not (is_empty apps)) (λ _. turns tt)
      (λ _. cond_cases (Does s (batch h e n p cs apps)) (ltb e s.counters.epoch) (λ _. nacks stale_batch)
      (λ t. batches (nltb→le e s.counters.epoch t) (does_handle (with_counters s (at_epoch e s.counters)) h n p cs (find h s.handles) refl)))

  pub does : (s : Standby) (f : Frame) → Does s f (on_intact L s f)
  does s (hello v e node kinds) = does_hello s v e node kinds
  does s (welcome e i) = turns tt
  does s (bind h e lag k) = does_bind s h e lag k
  does s (batch h e n p cs apps) = does_batch s h e n p cs apps
  does s (ack h n) = turns tt
  does s (nack h r) = turns tt
  does s (bound h m) = turns tt
  does s (checked h e i) = does_checked s h e i
