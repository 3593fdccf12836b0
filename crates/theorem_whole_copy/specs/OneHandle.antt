-- ONE HANDLE FOR A SESSION, ON THE CODE (document 02, U4): every session has at most one handle; a row with a place for each session never gives 21; a handle
-- whose session a Bind took is unbound, and what it held is gone; a session sent whole to the new handle ends in A. Each call is what the contract of the entry
-- point that was called promises (`Called`, crates/standby_step/specs/Calls.antt; that the contracts of frames, flush and drops do is Entries.antt, that those of the
-- two promotions do crates/theorem_two_actives/specs/Entries.antt). The same of the model's steps is `OneHandle` (crates/model_standby/specs/OneHandle.antt). Assumes nothing.
use Rattle.std.specs.Prelude.{◌≡◌, ℕ, ◌^◌, ◌≤◌, ◌<◌, List, [], ◌∷◌, map, Bool, true, false, ◌&&◌, ◌||◌, length, T, eqb, None, Ok}
use Rattle.std.proofs.Math.Option.{none, some}
use Rattle.base_flags.specs.Flag.{is_set}
use Rattle.model_frame.specs.Frame.{Key, Change, Part, bind, batch}
use Rattle.model_frame.specs.Refusal
use Rattle.model_session.specs.Session.{Session, Holdable, top, suits}
use Rattle.model_session.specs.Whole.{whole_batches, hold_length}
use Rattle.store_areas.specs.declared.Shape.{Shape}
use Rattle.store_areas.specs.Areas.{places_of}
use Rattle.model_standby.specs.Answer.{intact, given, refused, accepted}
use Rattle.model_standby.specs.Row.{find}
use Rattle.model_standby.specs.Store.{place_of, session_at, or_new}
use Rattle.model_standby.specs.State.{Bound, Call, on_frame_held, new_bound}
use Rattle.model_standby.specs.Standby.{with_handle}
use Rattle.model_standby.specs.Demand.{Hands}
use Rattle.model_standby.specs.OneHandle.{calls_bind, OneEach}
use Rattle.standby_row.specs.Row.{apart_of}
use Rattle.standby_state.specs.declared.Settings.{Settings}
use Rattle.standby_state.specs.declared.Answer.{Answer}
use Rattle.standby_state.specs.Answers.{answer_of}
use Rattle.standby_step.specs.Calls.{room_all}
use Rattle.active.specs.declared.Sending.{Sending}
use Rattle.active.specs.Whole.{SendsWhole, SentWhole}
use Rattle.theorem_whole_copy.specs.Demand.{Lent, stands_for, spoken, Allowed, Calls, Runs, no_calls, call, First, frames_of_a, Claim}

module _ (s : Settings) where
  -- the call c, from x to y with the answer a, hands in a Bind of the handle h on the key k, and it is accepted
  pub record Binds (x y : Lent) (c : Call) (a : Answer) (h : ℕ) (k : Key) : Type 0 where
    pub bytes : List ℕ
    pub epoch : ℕ
    pub lag : ℕ
    pub hands : Hands c bytes
    pub reads : given (spoken x) bytes ≡ intact (bind h epoch lag k)
    pub called : Calls s c x y a
    pub is_accepted : T (accepted (answer_of y.bytes a))

  -- g is bound again: a Bind of g among the calls is accepted
  abbrev pub bound_again : ℕ → {x z : Lent} {cs : List Call} → Runs s x cs z → Bool
  bound_again g no_calls = false
  bound_again g (call {x} {y} {c} {a} p rest) = calls_bind (spoken x) g c && accepted (answer_of y.bytes a) || bound_again g rest

  -- an accepted Bind, the call c from x to y, took the session of the handle g, which was bound (b)
  pub record Removed (x y : Lent) (c : Call) (g : ℕ) (b : Bound) : Type 0 where
    -- until g is bound again it is unbound,
    pub unbound_so : (cs : List Call) (z : Lent) (r : Runs s y cs z) → bound_again g r ≡ false → find g (stands_for s z).handles ≡ none
    -- and a Batch on it (unpromoted, without application records, not stale) is 14;
    pub batch_is_14 : (cs : List Call) (z : Lent) (r : Runs s y cs z) → bound_again g r ≡ false → is_set z.counters.promoted ≡ false
        → (d : Call) (w : List ℕ) (e n : ℕ) (p : Part) (own : List Change) → Hands d w → given (spoken z) w ≡ intact (batch g e n p own []) → z.counters.epoch.0 ≤ e
        → (u : Lent) (a : Answer) → Calls s d z u a → answer_of u.bytes a ≡ refused Refusal.unbound
    -- what g held, its byte sum and its number are nothing to what comes, also when it is bound again: from areas that stand for the same but for these the run
    -- is the same,
    pub forgotten : (x₁ : Lent) (b₁ : Bound) → Allowed s x₁ → room_all x₁.row x₁.holds.bytes ≡ room_all x.row x.holds.bytes → stands_for s x₁ ≡ with_handle (stands_for s x) g b₁ → b₁.place ≡ b.place
        → (cs : List Call) (z z₁ : Lent) → Runs s x (c ∷ cs) z → Runs s x₁ (c ∷ cs) z₁ → stands_for s z₁ ≡ stands_for s z
    -- and so are the answers that come after
    pub same_answers : (x₁ : Lent) (b₁ : Bound) → Allowed s x₁ → room_all x₁.row x₁.holds.bytes ≡ room_all x.row x.holds.bytes → stands_for s x₁ ≡ with_handle (stands_for s x) g b₁ → b₁.place ≡ b.place
        → (cs : List Call) (z z₁ : Lent) → Runs s x (c ∷ cs) z → Runs s x₁ (c ∷ cs) z₁ → (d : Call) (u u₁ : Lent) (a a₁ : Answer) → Calls s d z u a → Calls s d z₁ u₁ a₁
        → answer_of u₁.bytes a₁ ≡ answer_of u.bytes a

  -- after an accepted Bind of h on k, of which y is left: sending the session A whole to h, at commit numbers from 1, is demand 3 from the Bind's own answer on.
  -- B is the session that the Bind found, or a new one, and p its place
  pub record SentToNew (limit : ℕ) (A B : Session) (k : Key) (h p : ℕ) (y : Lent) : Type 0 where
    pub claim : (cs : List Call) (z : Lent) (d : First s y.counters.epoch.0 (frames_of_a s limit A h (new_bound p) y) y cs z)
        → Claim s limit A B (record { key = k; earlier = 0 }) h (new_bound p) y cs z d
    -- all that a sending over an active's store gives until it says done, handed in, makes the session A
    pub ends_in_A : (shape : Shape) (w a : List ℕ) (fs : List (List ℕ)) (t : Sending) (out out' : List ℕ) → SentWhole limit shape w a A h y.counters.epoch.0 0 fs t
        → SendsWhole limit shape w a t out out' (Ok None) → (z : Lent) → Runs s y (map on_frame_held fs) z → session_at (places_of s.shape z.words z.bytes) p ≡ some A

  -- of what is lent, from every state that docs/AREAS.md allows
  pub record OneHandle (x : Lent) : Type 0 where
    -- every session has at most one handle, now and after any calls
    pub one_each : (cs : List Call) (z : Lent) → Runs s x cs z → OneEach (stands_for s z).handles
    -- no two used records of the row have one handle, and no two name one place, now and after any calls
    pub row_apart : (cs : List Call) (z : Lent) → Runs s x cs z → apart_of z.row ≡ true
    -- a row of at least S places never gives 21
    pub never_full : s.shape.places ≤ length x.row → (cs : List Call) (z : Lent) → Runs s x cs z → (c : Call) (y : Lent) (a : Answer) → Calls s c z y a → answer_of y.bytes a ≡ refused Refusal.no_handle_place → ⊥
    -- a Bind that is accepted removes the session's other handle
    pub removes : (c : Call) (h g : ℕ) (k : Key) (b : Bound) (y : Lent) (a : Answer) → Binds x y c a h k → eqb h g ≡ false → find g (stands_for s x).handles ≡ some b
        → b.place ≡ place_of k (stands_for s x).places → Removed x y c g b
    pub sent_to_new : (limit : ℕ) (A : Session) (c : Call) (h : ℕ) (k : Key) (y : Lent) (a : Answer) → Binds x y c a h k → Holdable s.shape.bytes s.shape.messages A
        → suits (spoken x) A.stamp ≡ true → hold_length s.shape.bytes s.shape.messages A.stamp ≤ room_all x.row x.holds.bytes → h < 2 ^ 32 → x.counters.epoch.0 ≤ top → length (whole_batches limit A) ≤ top
        → SentToNew limit A (or_new (session_at (stands_for s x).places (place_of k (stands_for s x).places))) k h (place_of k (stands_for s x).places) y
