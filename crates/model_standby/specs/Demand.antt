-- Demand 3 of the model's steps: the start, and the two lists of calls. What the client reads is the claim of the code
-- (crates/theorem_whole_copy/specs/Demand.antt), which follows from this one.
-- Assumes nothing.
use Rattle.std.specs.Prelude.{◌≡◌, ℕ, ◌+◌, ◌^◌, ◌≤◌, ◌<◌, List, [], ◌∷◌, ◌++◌, Bool, true, false, cond, not, ◌&&◌, ◌||◌, length, T, eqb, leb}
use Rattle.std.proofs.Math.Option.{some}
use Rattle.model_frame.specs.Frame.{Frame}
use Rattle.model_frame.specs.Refusal
use Rattle.model_frame.specs.Parse.{is_empty}
use Rattle.model_frame.specs.Writing.{encode}
use Rattle.model_session.specs.Session.{suits, Session, Holdable, top}
use Rattle.model_session.specs.Whole.{whole_batches, whole_frames, hold_length}
use Rattle.model_standby.specs.Answer.{intact, given, Answer, refused, accepted, lower}
use Rattle.model_standby.specs.Row.{find}
use Rattle.model_standby.specs.Store.{session_at}
use Rattle.model_standby.specs.State.{Settings, Bound, Standby, Call, on_frame_held, on_frame, flush, disconnected_from, promote, promote_unchecked}
use Rattle.model_standby.specs.Handles.{apart}
use Rattle.model_standby.specs.Standby.{step, run}
use Rattle.model_standby.specs.PlainCopy.{OwnKey, own_key, copy_at, copy_run}

-- A is a session that the store can hold. The handle h is bound to the place of session B, whose key is k, with nothing
-- held and document 01's hold area; the standby is unpromoted; the row keeps its rule (one handle for a session). Handle, epoch and the numbers of A's
-- batches are of their types (else sending gives 8 or 24). Nothing else is asked of the state.
pub record ModelStart (L : Settings) (limit : ℕ) (A B : Session) (k : OwnKey) (h : ℕ) (b : Bound) (s : Standby) : Type 0 where
  pub C_limit : L.C ≤ 33554432
  pub M_limit : L.M ≤ 65536
  pub A_held : Holdable L.C L.M A
  pub unpromoted : s.counters.promoted ≡ false
  pub row_apart : apart s.handles ≡ true
  pub bound_so : find h s.handles ≡ some b
  pub is_B : session_at s.places b.place ≡ some B
  pub its_key : own_key s.places b.place ≡ some k
  pub nothing_held : b.held ≡ []
  -- A's stamp suits the connection's version, and the hold area is long enough for such a stamp
  pub suits_so : suits s.counters.version A.stamp ≡ true
  pub area : hold_length L.C L.M A.stamp ≤ L.room
  pub handle_u32 : h < 2 ^ 32
  pub epoch_u64 : s.counters.epoch ≤ top
  pub sendable : b.number + length (whole_batches limit A) ≤ top

-- frames, flushes and drops
abbrev pub not_promotion : Call → Bool
not_promotion (on_frame_held w) = true
not_promotion (on_frame w) = true
not_promotion (flush n) = true
not_promotion (disconnected_from n) = true
not_promotion promote = false
not_promotion promote_unchecked = false

abbrev pub no_promotions : List Call → Bool
no_promotions [] = true
no_promotions (c ∷ cs) = not_promotion c && no_promotions cs

-- the call hands in the bytes w, by on_frame_held or by on_frame
pub data Hands : Call → List ℕ → Type 0 where
  by_held : {w : List ℕ} → Hands (on_frame_held w) w
  by_frame : {w : List ℕ} → Hands (on_frame w) w

-- a number outside 14 to 18
abbrev pub is_outside : ℕ → Bool
is_outside n = not (leb Refusal.unbound n && leb n Refusal.hold_area_full)

-- bytes besides A's, read in the call's version and answered so: a frame of an epoch below e, or refused with a number outside 14 to 18
pub data Aside (version e : ℕ) : List ℕ → Answer → Type 0 where
  is_lower : {w : List ℕ} {f : Frame} {a : Answer} → given version w ≡ intact f → T (lower e f) → Aside version e w a
  refused_outside : {w : List ℕ} {n : ℕ} → T (is_outside n) → Aside version e w (refused n)

-- From the state s, of A's frames `left` being still to come: the calls hand in a prefix of these, once each in order,
-- and besides only asides; flushes and drops stand anywhere.
pub data FirstList (L : Settings) (e : ℕ) : List Frame → Standby → List Call → Type 0 where
  list_ends : {left : List Frame} {s : Standby} → FirstList L e left s []
  ours_next : {f : Frame} {left : List Frame} {s : Standby} {c : Call} {cs : List Call} → Hands c (encode f) → FirstList L e left (step L s c).state cs → FirstList L e (f ∷ left) s (c ∷ cs)
  aside_next : {left : List Frame} {s : Standby} {c : Call} {cs : List Call} {w : List ℕ} → Hands c w → Aside s.counters.version e w (step L s c).answer → FirstList L e left (step L s c).state cs → FirstList L e left s (c ∷ cs)
  flush_next : {left : List Frame} {s : Standby} {cs : List Call} (n : ℕ) → FirstList L e left (step L s (flush n)).state cs → FirstList L e left s (flush n ∷ cs)
  drop_next : {left : List Frame} {s : Standby} {cs : List Call} (n : ℕ) → FirstList L e left (step L s (disconnected_from n)).state cs → FirstList L e left s (disconnected_from n ∷ cs)

module _ {L : Settings} {e : ℕ} where
  -- A's last is among those accepted
  abbrev pub model_took_last : {left : List Frame} {s : Standby} {cs : List Call} → FirstList L e left s cs → Bool
  model_took_last list_ends = false
  model_took_last (ours_next {left} {s} {c} hands rest) = is_empty left && accepted (step L s c).answer || model_took_last rest
  model_took_last (aside_next hands p rest) = model_took_last rest
  model_took_last (flush_next n rest) = model_took_last rest
  model_took_last (drop_next n rest) = model_took_last rest

  -- A's frames before any drop of the current line are all accepted
  abbrev pub ModelAllTaken : {left : List Frame} {s : Standby} {cs : List Call} → FirstList L e left s cs → Type 0
  ModelAllTaken list_ends = Unit {0}
  ModelAllTaken (ours_next {s} {c} hands rest) = T (accepted (step L s c).answer) × ModelAllTaken rest
  ModelAllTaken (aside_next hands p rest) = ModelAllTaken rest
  ModelAllTaken (flush_next n rest) = ModelAllTaken rest
  ModelAllTaken (drop_next {s} n rest) = cond (eqb n s.counters.connections) (Unit {0}) (ModelAllTaken rest)

-- What demand 3 claims of a first list `cs`, as `d` says of it. A's frames are those that send A whole at the standby's epoch,
-- numbered on from the handle's last.
pub record ModelClaim (L : Settings) (limit : ℕ) (A B : Session) (k : OwnKey) (h : ℕ) (b : Bound) (s : Standby) (cs : List Call) (d : FirstList L s.counters.epoch (whole_frames limit h s.counters.epoch b.number A) s cs) : Type 0 where
  -- A's frames before any drop of the current line are all accepted
  pub all_taken : ModelAllTaken d
  -- after the list the session is exactly A if A's last is among those accepted, else exactly B
  pub is_A_or_B : session_at (run L s cs).places b.place ≡ some (cond (model_took_last d) A B)
  -- after every further list the session is exactly that of the plain copy, fed both lists
  pub is_the_copy : (more : List Call) → T (no_promotions more) → session_at (run L s (cs ++ more)).places b.place ≡ some (copy_run L k (copy_at B s) s (cs ++ more)).session
  -- which after the first list was A or B likewise, so batches accepted after A act as on A
  pub copy_is_A_or_B : (copy_run L k (copy_at B s) s cs).session ≡ cond (model_took_last d) A B
