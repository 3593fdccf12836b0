-- The frame of an answer, if it has one. Assumes nothing.
use Rattle.std.specs.Prelude as prelude
use Rattle.std.specs.Prelude.{Some, None, ℕ, ◌≡◌, Bool, cond, ◌&&◌, ◌||◌, List, eqb, leb}
use Rattle.std.proofs.Math.Option.{Option, none, some}
use Rattle.model_frame.specs.FrameKind
use Rattle.model_frame.specs.ReasonByte
use Rattle.model_frame.specs.Frame as the_frame
use Rattle.model_frame.specs.Frame.{welcome, ack, nack, bound}
use Rattle.frame_writer.specs.Encoding.{span_fits, frame_if}
use Rattle.frame.specs.declared.Frame.{Frame}
use Rattle.frame.specs.Answers.{frame_in}
use Rattle.standby_state.specs.declared.Answer.{Answer}
use Rattle.standby_state.specs.Answers.{brief_of, reason_by}

-- document 01 has four reasons
abbrev pub is_reason : ℕ → Bool
is_reason r = leb ReasonByte.stale_epoch r && leb r ReasonByte.restarted

-- no refusal, and one of the four kinds that a standby answers, a Nack with one of the four reasons
abbrev pub is_frame : Answer → Bool
is_frame a =
    eqb a.refusal 0
    && (((eqb a.kind FrameKind.welcome || eqb a.kind FrameKind.ack) || eqb a.kind FrameKind.bound) || (eqb a.kind FrameKind.nack && is_reason a.reason))

-- of such an answer; the texts of a Bound stand in the bytes b, or there is no frame
abbrev pub framed : List ℕ → Answer → Option the_frame.Frame
framed b a =
    cond (eqb a.kind FrameKind.welcome) (some (welcome a.epoch.0 a.incarnation.0))
    (cond (eqb a.kind FrameKind.ack) (some (ack a.handle a.commit_no.0))
    (cond (eqb a.kind FrameKind.nack) (some (nack a.handle (reason_by a.reason)))
    (frame_if (span_fits b a.summary.created_at && span_fits b a.summary.marks) (bound a.handle (brief_of b a.summary)))))

-- a refusal, done, and a kind or a reason that is none have no frame
abbrev pub frame_for : List ℕ → Answer → Option the_frame.Frame
frame_for b a = cond (is_frame a) (framed b a) none

-- ---- of the functions within

-- the frame that there is, over the bytes where a Bound has its texts
abbrev pub answer_frame : ℕ → List ℕ → prelude.Option Frame → Option the_frame.Frame
answer_frame version b (Some f) = frame_in version b f
answer_frame version b None = none

pub record Frames (a : Answer) (r : prelude.Option Frame) : Type 0 where
  pub is : (version : ℕ) (b : List ℕ) → answer_frame version b r ≡ frame_for b a
