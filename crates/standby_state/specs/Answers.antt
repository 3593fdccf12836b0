-- What an answer stands for: a refusal by its number, a frame, or done. Its texts are parts of the store's bytes b. Assumes nothing.
use Rattle.std.specs.Prelude.{ℕ, Some, None, cond, List, eqb, is_some, unwrap_or}
use Rattle.std.specs.Prelude as prelude
use Rattle.std.proofs.Math.Option.{none, some}
use Rattle.base_flags.specs.Flag.{is_set}
use Rattle.model_frame.specs.ReasonByte
use Rattle.model_frame.specs.FrameKind
use Rattle.model_frame.specs.Frame.{Reason, stale_epoch, diverged, lag_too_great, restarted, Frame, welcome, ack, nack, bound}
use Rattle.model_frame.specs.Frame as the_frame
use Rattle.frame_reader.specs.Answers.{span_of}
use Rattle.frame_fields.specs.declared.CommitNumber.{CommitNumber}
use Rattle.frame_fields.specs.declared.Epoch.{Epoch}
use Rattle.frame_fields.specs.declared.Incarnation.{Incarnation}
use Rattle.frame_fields.specs.declared.Summary.{Summary}
use Rattle.model_standby.specs.Answer.{reply, refused, done}
use Rattle.model_standby.specs.Answer as the-answer
use Rattle.standby_state.specs.declared.BoundSummary.{BoundSummary}
use Rattle.standby_state.specs.declared.Answer.{Answer}

abbrev pub brief_of : List ℕ → BoundSummary → the_frame.Summary
brief_of b m =
    record {
      next_out = m.next_outgoing;
      next_in = m.next_incoming;
      in_flight = cond (is_set m.has_in_flight) (some m.in_flight) none;
      stamp_text = span_of b m.created_at;
      marks_text = span_of b m.marks;
      last_outgoing = m.last_outgoing;
    }

-- the same, with a byte beside the number in flight
abbrev pub flat_of : Summary → BoundSummary
flat_of m =
    record {
      next_outgoing = m.next_outgoing;
      next_incoming = m.next_incoming;
      has_in_flight = cond (is_some m.in_flight) 1 0;
      in_flight = unwrap_or m.in_flight 0;
      created_at = m.created_at;
      marks = m.marks;
      last_outgoing = m.last_outgoing;
    }

-- back again: none in flight where the byte is 0
abbrev pub of_flat : BoundSummary → Summary
of_flat m =
    record {
      next_outgoing = m.next_outgoing;
      next_incoming = m.next_incoming;
      in_flight = cond (is_set m.has_in_flight) (Some m.in_flight) None;
      created_at = m.created_at;
      marks = m.marks;
      last_outgoing = m.last_outgoing;
    }

-- a Nack's reason by its byte
abbrev pub reason_by : ℕ → Reason
reason_by r = cond (eqb r ReasonByte.stale_epoch) stale_epoch (cond (eqb r ReasonByte.diverged) diverged (cond (eqb r ReasonByte.lag_too_great) lag_too_great restarted))

-- the frame by its kind
abbrev pub frame_by : List ℕ → Answer → Frame
frame_by b a =
    cond (eqb a.kind FrameKind.welcome) (welcome a.epoch.0 a.incarnation.0)
    (cond (eqb a.kind FrameKind.ack) (ack a.handle a.commit_no.0)
    (cond (eqb a.kind FrameKind.nack) (nack a.handle (reason_by a.reason)) (bound a.handle (brief_of b a.summary))))

abbrev pub answer_of : List ℕ → Answer → the-answer.Answer
answer_of b a = cond (eqb a.refusal 0) (cond (eqb a.kind 0) done (reply (frame_by b a))) (refused a.refusal)

-- ---- each answer as it is made

abbrev pub no_brief : BoundSummary
no_brief =
    record {
      next_outgoing = 0;
      next_incoming = 0;
      has_in_flight = 0;
      in_flight = 0;
      created_at = record { at = 0; len = 0 };
      marks = record { at = 0; len = 0 };
      last_outgoing = 0;
    }

abbrev pub blank_of : ℕ → ℕ → ℕ → Answer
blank_of refusal kind handle =
    record { refusal = refusal; kind = kind; handle = handle; epoch = record { 0 = 0 }; incarnation = record { 0 = 0 }; commit_no = record { 0 = 0 }; reason = 0; summary = no_brief; has_lowest = 0; lowest = 0 }

abbrev pub is_refused : ℕ → Answer
is_refused n = blank_of n 0 0

abbrev pub is_done : Answer
is_done = blank_of 0 0 0

abbrev pub is_welcome : Epoch → Incarnation → Answer
is_welcome e i = record { refusal = 0; kind = FrameKind.welcome; handle = 0; epoch = e; incarnation = i; commit_no = record { 0 = 0 }; reason = 0; summary = no_brief; has_lowest = 0; lowest = 0 }

abbrev pub is_ack : ℕ → CommitNumber → Answer
is_ack h n = record { refusal = 0; kind = FrameKind.ack; handle = h; epoch = record { 0 = 0 }; incarnation = record { 0 = 0 }; commit_no = n; reason = 0; summary = no_brief; has_lowest = 0; lowest = 0 }

abbrev pub is_nack : ℕ → ℕ → Answer
is_nack h r = record { refusal = 0; kind = FrameKind.nack; handle = h; epoch = record { 0 = 0 }; incarnation = record { 0 = 0 }; commit_no = record { 0 = 0 }; reason = r; summary = no_brief; has_lowest = 0; lowest = 0 }

abbrev pub is_bound : ℕ → BoundSummary → Answer
is_bound h m = record { refusal = 0; kind = FrameKind.bound; handle = h; epoch = record { 0 = 0 }; incarnation = record { 0 = 0 }; commit_no = record { 0 = 0 }; reason = 0; summary = m; has_lowest = 0; lowest = 0 }

-- ---- the lowest message on hand, which stands beside the frame

-- none is handed up
abbrev pub plain : Answer → Answer
plain a =
    record {
      refusal = a.refusal;
      kind = a.kind;
      handle = a.handle;
      epoch = a.epoch;
      incarnation = a.incarnation;
      commit_no = a.commit_no;
      reason = a.reason;
      summary = a.summary;
      has_lowest = 0;
      lowest = 0;
    }

-- it is, if it is some number
abbrev pub handing_up : prelude.Option ℕ → Answer → Answer
handing_up t a =
    record {
      refusal = a.refusal;
      kind = a.kind;
      handle = a.handle;
      epoch = a.epoch;
      incarnation = a.incarnation;
      commit_no = a.commit_no;
      reason = a.reason;
      summary = a.summary;
      has_lowest = cond (is_some t) 1 0;
      lowest = unwrap_or t 0;
    }
