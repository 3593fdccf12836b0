-- The record of an answer, field for field: what the answer does not use is 0, and a Bound's texts lie in the store's bytes b. Assumes nothing.
use Rattle.std.specs.Prelude.{ℕ, ◌≡◌, List}
use Rattle.std.proofs.Math.Option.{Option, none, some}
use Rattle.model_frame.specs.FrameKind
use Rattle.model_frame.specs.Frame.{Frame, hello, welcome, bind, batch, ack, nack, bound, checked}
use Rattle.model_frame.specs.Frame as the_frame
use Rattle.model_frame.specs.Writing.{reason_number, flight_number}
use Rattle.frame_reader.specs.declared.Span.{Span}
use Rattle.frame_reader.specs.Answers.{Lies}
use Rattle.model_standby.specs.Answer.{reply, refused, done}
use Rattle.model_standby.specs.Answer as the-answer
use Rattle.standby_state.specs.declared.BoundSummary.{BoundSummary}
use Rattle.standby_state.specs.declared.Answer.{Answer}
use Rattle.standby_state.specs.Answers.{answer_of, brief_of, no_brief, blank_of}

-- 1 where a number is in flight
abbrev pub flight_flag : Option ℕ → ℕ
flight_flag none = 0
flight_flag (some n) = 1

-- a summary whose texts stand at these parts of the bytes
abbrev pub summary_at : Span → Span → the_frame.Summary → BoundSummary
summary_at stamp marks m =
    record {
      next_outgoing = m.next_out;
      next_incoming = m.next_in;
      has_in_flight = flight_flag m.in_flight;
      in_flight = flight_number m.in_flight;
      created_at = stamp;
      marks = marks;
      last_outgoing = m.last_outgoing;
    }

-- kind, handle, epoch, incarnation, commit number, reason, summary
abbrev pub frame_record : ℕ → ℕ → ℕ → ℕ → ℕ → ℕ → BoundSummary → Answer
frame_record kind handle epoch incarnation number reason m =
    record {
      refusal = 0;
      kind = kind;
      handle = handle;
      epoch = record { 0 = epoch };
      incarnation = record { 0 = incarnation };
      commit_no = record { 0 = number };
      reason = reason;
      summary = m;
      has_lowest = 0;
      lowest = 0;
    }

-- none of a text's bytes is cut off
pub record BoundRecord (b : List ℕ) (h : ℕ) (m : the_frame.Summary) (a : Answer) : Type 0 where
  pub is : a ≡ frame_record FrameKind.bound h 0 0 0 0 (summary_at a.summary.created_at a.summary.marks m)
  pub stamp : Lies b a.summary.created_at
  pub marks : Lies b a.summary.marks

-- a standby answers with no frame but these four
abbrev pub FrameRecord : List ℕ → Frame → Answer → Type 0
FrameRecord b (hello v e node kinds) a = ⊥
FrameRecord b (welcome e i) a = a ≡ frame_record FrameKind.welcome 0 e i 0 0 no_brief
FrameRecord b (bind h e lag k) a = ⊥
FrameRecord b (batch h e n part cs apps) a = ⊥
FrameRecord b (ack h n) a = a ≡ frame_record FrameKind.ack h 0 0 n 0 no_brief
FrameRecord b (nack h r) a = a ≡ frame_record FrameKind.nack h 0 0 0 (reason_number r) no_brief
FrameRecord b (bound h m) a = BoundRecord b h m a
FrameRecord b (checked h e i) a = ⊥

abbrev pub RecordOf : List ℕ → the-answer.Answer → Answer → Type 0
RecordOf b (reply f) a = FrameRecord b f a
RecordOf b (refused n) a = a ≡ blank_of n 0 0
RecordOf b done a = a ≡ blank_of 0 0 0

-- a is the record of the answer that it stands for: no other record stands for that answer, but for where a Bound has its texts
pub record Exact (b : List ℕ) (a : Answer) : Type 0 where
  pub is : RecordOf b (answer_of b a) a

-- ---- the lowest message on hand: a flag, and the number beside it, 0 where none is handed up
pub record HandsUp (t : Option ℕ) (a : Answer) : Type 0 where
  pub flag : a.has_lowest ≡ flight_flag t
  pub number : a.lowest ≡ flight_number t

-- ---- of the function that makes a Bound's summary: it is as it would be made from what it stands for
pub record ExactSummary (b : List ℕ) (m : BoundSummary) : Type 0 where
  pub is : m ≡ summary_at m.created_at m.marks (brief_of b m)
  pub stamp : Lies b m.created_at
  pub marks : Lies b m.marks
