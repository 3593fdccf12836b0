-- AN IMPORTED SESSION IS LIKE ANY OTHER. The first four arguments' promise is that of `store_import::import` (`Taken`), so this speaks of the code.
-- Assumes nothing.
use Rattle.std.specs.Prelude.{ℕ, ◌^◌, ◌≤◌, ◌≡◌, List, T, Ok}
use Rattle.std.proofs.Math.Option.{some}
use Rattle.store_log.proofs.Lawful.{Small}
use Rattle.model_frame.specs.Frame.{Key}
use Rattle.model_session.specs.Session.{Session, Holdable, top}
use Rattle.model_standby.specs.PlainCopy.{OwnKey}
use Rattle.model_standby.specs.State.{Bound, Call}
use Rattle.model_fix.specs.Import.{judge_file, imported}
use Rattle.fix_file.specs.Judging.{messages_in}
use Rattle.store_areas.specs.declared.Shape.{Shape}
use Rattle.store_areas.specs.Areas.{Rules}
use Rattle.standby_state.specs.declared.Settings.{Settings}
use Rattle.active.specs.declared.Line.{Line}
use Rattle.active.specs.declared.Sending.{Sending}
use Rattle.active.specs.Whole.{limit_of, stored_at, start_of, start_from, Begins, SendCalls, SentWhole}
use Rattle.theorem_whole_copy.specs.Demand.{Lent, Start, First, frames_of_a, Claim}
use Rattle.theorem_whole_copy.specs.Lines.{LineCalls}

-- the session that a file builds
abbrev pub session_of : Shape → List ℕ → Session
session_of s file = imported s.bytes s.messages (messages_in (judge_file file))

pub record LikeAny (s : Shape) (file w b : List ℕ) (i : ℕ) : Type 0 where
  -- it is one that the store can hold
  pub held : Holdable s.bytes s.messages (session_of s file)
  -- its next outgoing number is at most 2^64 - 1
  pub next : (session_of s file).next_out ≤ top
  -- the areas still keep the rules, and hold it at the place that was answered
  pub rules : Rules s w b
  pub stored : stored_at s w b i ≡ some (session_of s file)
  -- calls of `Sending` on it give the frames that send it whole, as of any session
  pub frames : (limit version h e last : ℕ) (from t : Sending) (fs : List (List ℕ)) → Small (2 ^ 64) w → Small 256 b → start_of (Ok from) ≡ start_from limit version (stored_at s w b i) i h e last
      → SendCalls limit s w b from fs t → SentWhole limit s w b (session_of s file) h e last fs t
  -- demand 3: of a start, that the session sent is one the store can hold need not be asked
  pub copied : (set : Settings) → set.shape ≡ s → (limit : ℕ) (B : Session) (k : OwnKey) (h : ℕ) (bound : Bound) (x : Lent)
      → (start : Holdable set.shape.bytes set.shape.messages (session_of s file) → Start set limit (session_of s file) B k h bound x)
      → (cs : List Call) (z : Lent) (d : First set x.counters.epoch.0 (frames_of_a set limit (session_of s file) h bound x) x cs z) → Claim set limit (session_of s file) B k h bound x cs z d

-- and on each line, with the line's own limit (document 02, U9)
pub record LikeAnyOn (line : Line) (limit : ℕ) (s : Shape) (file w b : List ℕ) (i : ℕ) : Type 0 where
  pub own_frames : (version h e last : ℕ) (from t : Sending) (fs : List (List ℕ)) → Small (2 ^ 64) w → Small 256 b → Begins (limit_of line) line version s w b i h e last (Ok from)
      → LineCalls s w b from fs t → (t.line ≡ line) × SentWhole limit s w b (session_of s file) h e last fs t
  pub copied : (set : Settings) → set.shape ≡ s → (B : Session) (k : OwnKey) (h : ℕ) (bound : Bound) (x : Lent)
      → (start : Holdable set.shape.bytes set.shape.messages (session_of s file) → Start set limit (session_of s file) B k h bound x)
      → (cs : List Call) (z : Lent) (d : First set x.counters.epoch.0 (frames_of_a set limit (session_of s file) h bound x) x cs z) → Claim set limit (session_of s file) B k h bound x cs z d
