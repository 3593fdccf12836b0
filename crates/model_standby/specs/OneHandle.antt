-- ONE HANDLE FOR A SESSION (document 02, U4), of the model's steps: every session has at most one handle; a row with a place for each session never gives 21;
-- a handle whose session a Bind took is unbound, and what it held is gone; a session sent whole to the new handle ends in A.
-- Assumes nothing.
use Rattle.std.specs.Prelude.{◌≡◌, ℕ, ◌^◌, ◌≤◌, ◌<◌, List, [], ◌∷◌, map, Bool, true, false, ◌&&◌, ◌||◌, length, T, eqb}
use Rattle.std.proofs.Math.Option.{none, some}
use Rattle.model_frame.specs.Frame.{Key, Change, Part, Frame, hello, welcome, bind, batch, ack, nack, bound, checked}
use Rattle.model_frame.specs.Refusal
use Rattle.model_frame.specs.Parse.{Each}
use Rattle.model_frame.specs.Writing.{encode}
use Rattle.model_session.specs.Session.{suits, Session, Holdable, top}
use Rattle.model_session.specs.Whole.{whole_batches, whole_frames, hold_length}
use Rattle.model_standby.specs.Answer.{Given, damaged, intact, given, refused, accepted}
use Rattle.model_standby.specs.Row.{Row, Used, find}
use Rattle.model_standby.specs.Store.{place_of, session_at, or_new}
use Rattle.model_standby.specs.State.{Settings, Bound, Standby, Call, on_frame_held, on_frame, flush, disconnected_from, promote, promote_unchecked, new_bound}
use Rattle.model_standby.specs.Handles.{apart}
use Rattle.model_standby.specs.Standby.{with_handle, step, run}
use Rattle.model_standby.specs.Demand.{Hands, FirstList, ModelClaim}

-- what is asked of a state: no more places in use than there are, the place of each bound handle in use, the rule of the row
pub record RowRules (L : Settings) (s : Standby) : Type 0 where
  pub places_few : length s.places ≤ L.S
  pub handles_there : Each (Used (λ (b : Bound). b.place < length s.places)) s.handles
  pub row_apart : apart s.handles ≡ true

-- ---- what is handed in

-- the call c hands in a Bind of the handle h on the key k, and it is accepted
pub record Binds (L : Settings) (s : Standby) (c : Call) (h : ℕ) (k : Key) : Type 0 where
  pub bytes : List ℕ
  pub epoch : ℕ
  pub lag : ℕ
  pub hands : Hands c bytes
  pub reads : given s.counters.version bytes ≡ intact (bind h epoch lag k)
  pub is_accepted : T (accepted (step L s c).answer)

-- a Bind of the handle g
abbrev pub is_bind : ℕ → Given → Bool
is_bind g (damaged n) = false
is_bind g (intact (hello v e node kinds)) = false
is_bind g (intact (welcome e i)) = false
is_bind g (intact (bind h e lag k)) = eqb g h
is_bind g (intact (batch h e n p cs apps)) = false
is_bind g (intact (ack h n)) = false
is_bind g (intact (nack h r)) = false
is_bind g (intact (bound h m)) = false
is_bind g (intact (checked h e i)) = false

-- read in the connection's version
abbrev pub calls_bind : ℕ → ℕ → Call → Bool
calls_bind version g (on_frame_held w) = is_bind g (given version w)
calls_bind version g (on_frame w) = is_bind g (given version w)
calls_bind version g (flush n) = false
calls_bind version g (disconnected_from n) = false
calls_bind version g promote = false
calls_bind version g promote_unchecked = false

-- g is bound again: a Bind of g among the calls is accepted
abbrev pub binds_again : Settings → ℕ → Standby → List Call → Bool
binds_again L g s [] = false
binds_again L g s (c ∷ cs) = calls_bind s.counters.version g c && accepted (step L s c).answer || binds_again L g (step L s c).state cs

-- ---- the claims

-- no two handles have one session
abbrev pub OneEach : Row Bound → Type 0
OneEach t = (g h : ℕ) (a b : Bound) → find g t ≡ some a → find h t ≡ some b → a.place ≡ b.place → g ≡ h

-- the call c, an accepted Bind, took the session of the handle g, which was bound (b)
pub record Removed (L : Settings) (s : Standby) (c : Call) (g : ℕ) (b : Bound) : Type 0 where
  -- until g is bound again it is unbound,
  pub unbound_so : (cs : List Call) → binds_again L g (step L s c).state cs ≡ false → find g (run L s (c ∷ cs)).handles ≡ none
  -- and a Batch on it (unpromoted, without application records, not stale) is 14;
  pub batch_is_14 : (cs : List Call) → binds_again L g (step L s c).state cs ≡ false → (run L s (c ∷ cs)).counters.promoted ≡ false
      → (d : Call) (w : List ℕ) (e n : ℕ) (p : Part) (own : List Change) → Hands d w → given (run L s (c ∷ cs)).counters.version w ≡ intact (batch g e n p own []) → (run L s (c ∷ cs)).counters.epoch ≤ e
      → (step L (run L s (c ∷ cs)) d).answer ≡ refused Refusal.unbound
  -- what g held, its byte sum and its number are nothing to any state from then on, also when it is bound again: with any others the run is the same,
  pub forgotten : (x : Bound) → x.place ≡ b.place → (cs : List Call) → run L (with_handle s g x) (c ∷ cs) ≡ run L s (c ∷ cs)
  -- and so are the answer to c
  pub same_answer : (x : Bound) → x.place ≡ b.place → (step L (with_handle s g x) c).answer ≡ (step L s c).answer
  -- and all that come after it
  pub same_answers : (x : Bound) → x.place ≡ b.place → (cs : List Call) (d : Call) → (step L (run L (with_handle s g x) (c ∷ cs)) d).answer ≡ (step L (run L s (c ∷ cs)) d).answer

-- from the state s after an accepted Bind of h on k, whose place is p: sending the session A whole to h, at commit numbers from 1, is demand 3; B is the session
-- that the Bind found, or a new one
pub record SentToNew (L : Settings) (limit : ℕ) (A B : Session) (k : Key) (h p : ℕ) (s : Standby) : Type 0 where
  pub claim : (cs : List Call) (d : FirstList L s.counters.epoch (whole_frames limit h s.counters.epoch 0 A) s cs) → ModelClaim L limit A B (record { key = k; earlier = 0 }) h (new_bound p) s cs d
  -- A's frames one after the other make it A
  pub ends_in_A : session_at (run L s (map (λ (f : Frame). on_frame_held (encode f)) (whole_frames limit h s.counters.epoch 0 A))).places p ≡ some A

-- of a state that keeps the rules of the row
pub record OneHandle (L : Settings) (s : Standby) : Type 0 where
  -- every session has at most one handle, now and after any calls
  pub one_each : (cs : List Call) → OneEach (run L s cs).handles
  -- no two places of the row have one handle, and no two name one session place, now and after any calls
  pub row_apart : (cs : List Call) → apart (run L s cs).handles ≡ true
  -- a row of at least S places never gives 21
  pub never_full : L.S ≤ length s.handles → (cs : List Call) (c : Call) → (step L (run L s cs) c).answer ≡ refused Refusal.no_handle_place → ⊥
  -- a Bind that is accepted removes the session's other handle
  pub removes : (c : Call) (h g : ℕ) (k : Key) (b : Bound) → Binds L s c h k → eqb h g ≡ false → find g s.handles ≡ some b → b.place ≡ place_of k s.places → Removed L s c g b
  pub sent_to_new : (limit : ℕ) (A : Session) (c : Call) (h : ℕ) (k : Key) → Binds L s c h k → L.C ≤ 33554432 → L.M ≤ 65536 → Holdable L.C L.M A → suits s.counters.version A.stamp ≡ true → hold_length L.C L.M A.stamp ≤ L.room
      → h < 2 ^ 32 → s.counters.epoch ≤ top → length (whole_batches limit A) ≤ top
      → SentToNew L limit A (or_new (session_at s.places (place_of k s.places))) k h (place_of k s.places) (step L s c).state
