-- WHOLE SENDING ON EACH LINE (document 02, U9). What is shown of a sending for every limit (`SentWhole`, `Start`, `Claim`) is used here for the two lines' own: what
-- `begin` answers on a line, and what calls of `send_whole` give from there, each as its contract promises (that these contracts do is Entries.antt).
-- Assumes nothing.
use Rattle.std.specs.Prelude.{◌≡◌, ℕ, ◌+◌, ◌^◌, ◌≤◌, ◌<◌, true, List, [], ◌∷◌, map, length, take, None, Some, Result, Ok, Err}
use Rattle.std.proofs.Math.Option.{some}
use Rattle.base_refusals.specs.declared.Refusal as why
use Rattle.model_text.specs.Version.{is_version}
use Rattle.model_frame.specs.Refusal
use Rattle.model_session.specs.Session.{Session, top, suits}
use Rattle.model_session.specs.Sender.{new_sender}
use Rattle.model_session.specs.Whole.{whole_batches, batch_limit}
use Rattle.model_standby.specs.Store.{session_at}
use Rattle.model_standby.specs.State.{Bound, Call, on_frame_held}
use Rattle.model_standby.specs.PlainCopy.{OwnKey}
use Rattle.store_areas.specs.declared.Shape.{Shape}
use Rattle.store_areas.specs.Areas.{places_of}
use Rattle.store_log.proofs.Lawful.{Small}
use Rattle.standby_state.specs.declared.Settings.{Settings}
use Rattle.active.specs.declared.Line.{Line}
use Rattle.active.specs.declared.Sending.{Sending}
use Rattle.active.specs.Whole.{branch_limit, limit_of, stored_at, SendStart, ready, start_of, Begins, SendsWhole, SentWhole}
use Rattle.theorem_whole_copy.specs.Demand.{Lent, Runs, First, Start, frames_of_a, Claim}

-- calls of `send_whole`, one after the other, over one store, each with the limit of the line of the sending that it is handed: the frames that they gave, as
-- bytes, and the state that the last one left
pub data LineCalls (shape : Shape) (w b : List ℕ) : Sending → List (List ℕ) → Sending → Type 0 where
  nothing : {s : Sending} → LineCalls shape w b s [] s
  too_short : {s t : Sending} {fs : List (List ℕ)} {out out' : List ℕ} → SendsWhole (limit_of s.line) shape w b s out out' (Err why.Refusal.NoRoom) → LineCalls shape w b s fs t → LineCalls shape w b s fs t
  frame : {s s' t : Sending} {fs : List (List ℕ)} {out out' : List ℕ} {len : ℕ} → SendsWhole (limit_of s.line) shape w b s out out' (Ok (Some (record { len = len; next = s' })))
      → LineCalls shape w b s' fs t → LineCalls shape w b s (take len out' ∷ fs) t

-- what `begin` answers on a line, of a session that is stored at a place of areas of u64 and u8
pub record Asked (line : Line) (version : ℕ) (shape : Shape) (w b : List ℕ) (i h e last : ℕ) (a : Session) (r : Result Sending why.Refusal) : Type 0 where
  pub words_u64 : Small (2 ^ 64) w
  pub bytes_u8 : Small 256 b
  pub stored : stored_at shape w b i ≡ some a
  pub begins : Begins (limit_of line) line version shape w b i h e last r

-- WHAT HOLDS ON A LINE whose limit this is
pub record OnLine (line : Line) (limit : ℕ) : Type 0 where
  -- in a version that there is and that the stamp suits, 24 is judged by the number of batches at this limit
  pub numbers_past : (version : ℕ) (shape : Shape) (w b : List ℕ) (i h e last : ℕ) (a : Session) (r : Result Sending why.Refusal) → Asked line version shape w b i h e last a r
      → is_version version ≡ true → suits version a.stamp ≡ true → top < last + length (whole_batches limit a) → start_of r ≡ SendStart.refused Refusal.numbers_past
  pub numbers_fit : (version : ℕ) (shape : Shape) (w b : List ℕ) (i h e last : ℕ) (a : Session) (r : Result Sending why.Refusal) → Asked line version shape w b i h e last a r
      → is_version version ≡ true → suits version a.stamp ≡ true → last + length (whole_batches limit a) ≤ top → start_of r ≡ ready i version (new_sender h e last)
  -- its own frames: what began on the line stays on it, and calls come to the frames that send the session whole at this limit
  pub own_frames : (version : ℕ) (shape : Shape) (w b : List ℕ) (i h e last : ℕ) (a : Session) (s t : Sending) (fs : List (List ℕ)) → Asked line version shape w b i h e last a (Ok s)
      → LineCalls shape w b s fs t → (t.line ≡ line) × SentWhole limit shape w b a h e last fs t
  -- demand 3 of A's frames at this limit
  pub demand_3 : (set : Settings) (A B : Session) (k : OwnKey) (h : ℕ) (b : Bound) (x : Lent) → Start set limit A B k h b x
      → (cs : List Call) (z : Lent) (d : First set x.counters.epoch.0 (frames_of_a set limit A h b x) x cs z) → Claim set limit A B k h b x cs z d
  -- and all that a sending on the line gives until it says done, handed in, makes the session A
  pub ends_in_A : (set : Settings) (A B : Session) (k : OwnKey) (h : ℕ) (b : Bound) (x : Lent) → Start set limit A B k h b x
      → (version : ℕ) (shape : Shape) (w a : List ℕ) (i : ℕ) (s t : Sending) (fs : List (List ℕ)) (out out' : List ℕ) → Asked line version shape w a i h x.counters.epoch.0 b.number A (Ok s)
      → LineCalls shape w a s fs t → SendsWhole (limit_of t.line) shape w a t out out' (Ok None) → (z : Lent) → Runs set x (map on_frame_held fs) z
      → session_at (places_of set.shape z.words z.bytes) b.place ≡ some A

-- the two lines
abbrev pub HeadOffice : Type 0
HeadOffice = OnLine Line.HeadOffice batch_limit

abbrev pub BranchLine : Type 0
BranchLine = OnLine Line.Branch branch_limit

-- a start of a session that this limit cuts into at least two batches
pub record Cut (limit : ℕ) : Type 0 where
  pub set : Settings
  pub A : Session
  pub B : Session
  pub its_key : OwnKey
  pub handle : ℕ
  pub bound : Bound
  pub lent : Lent
  pub start : Start set limit A B its_key handle bound lent
  pub at_least_two : 2 ≤ length (whole_batches limit A)
