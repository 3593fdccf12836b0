-- What the code's answers stand for, over the buffer b that was read. Assumes nothing.
use Rattle.std.specs.Prelude as prelude
use Rattle.std.specs.Prelude.{ℕ, ◌≡◌, ◌<◌, ◌⊎◌, List, Some, None, Result, Ok, Err}
use Rattle.std.proofs.Math.Option.{Option, none, some}
use Rattle.model_frame.specs.Frame as the_frame
use Rattle.model_frame.specs.Frame.{Key, Reason, stale_epoch, diverged, lag_too_great, restarted, commit, whole, last_whole, unknown}
use Rattle.model_frame.specs.PartByte
use Rattle.model_frame.specs.ReasonByte
use Rattle.model_frame.specs.Writing.{part_number, reason_number}
use Rattle.frame_reader.specs.declared.FrameError.{FrameError}
use Rattle.frame_reader.specs.Answers.{fault_of, span_of, Lies}
use Rattle.frame_fields.specs.declared.Part.{Part}
use Rattle.frame_fields.specs.declared.NackReason.{NackReason}
use Rattle.frame_fields.specs.declared.AppRecord.{AppRecord}
use Rattle.frame_fields.specs.declared.SessionId.{SessionId}
use Rattle.frame_fields.specs.declared.Summary.{Summary}

abbrev pub part_of : Part → the_frame.Part
part_of Part.Commit = commit
part_of Part.Whole = whole
part_of Part.LastWhole = last_whole

-- the part that is written as this byte, or the fault of a byte that none is
abbrev pub PartBy : ℕ → Result Part FrameError → Type 0
PartBy byte (Ok p) = byte ≡ part_number (part_of p)
PartBy byte (Err e) = (fault_of e ≡ unknown the_frame.part byte) × (PartByte.last_whole < byte)

abbrev pub reason_of : NackReason → Reason
reason_of NackReason.StaleEpoch = stale_epoch
reason_of NackReason.Diverged = diverged
reason_of NackReason.Lag = lag_too_great
reason_of NackReason.Restarted = restarted

-- the reason that is written as this byte, or the fault of a byte that none is
abbrev pub ReasonBy : ℕ → Result NackReason FrameError → Type 0
ReasonBy byte (Ok r) = byte ≡ reason_number (reason_of r)
ReasonBy byte (Err e) = (fault_of e ≡ unknown the_frame.refusal byte) × ((byte < ReasonByte.stale_epoch) ⊎ (ReasonByte.restarted < byte))

abbrev pub record_of : List ℕ → AppRecord → the_frame.AppRecord
record_of b r = record { kind = r.kind; blob = span_of b r.bytes }

abbrev pub key_of : List ℕ → SessionId → Key
key_of b k = record {
  begin = span_of b k.begin_string;
  sender = span_of b k.sender_comp_id;
  target = span_of b k.target_comp_id;
  suffix = span_of b k.key_suffix;
}

-- the four texts of a key lie in the buffer
abbrev pub KeyIn : List ℕ → SessionId → Type 0
KeyIn b k = Lies b k.begin_string × Lies b k.sender_comp_id × Lies b k.target_comp_id × Lies b k.key_suffix

abbrev pub flight_of : prelude.Option ℕ → Option ℕ
flight_of (Some n) = some n
flight_of None = none

abbrev pub summary_of : List ℕ → Summary → the_frame.Summary
summary_of b m = record {
  next_out = m.next_outgoing;
  next_in = m.next_incoming;
  in_flight = flight_of m.in_flight;
  stamp_text = span_of b m.created_at;
  marks_text = span_of b m.marks;
  last_outgoing = m.last_outgoing;
}

-- the two texts of a summary lie in the buffer
abbrev pub SummaryIn : List ℕ → Summary → Type 0
SummaryIn b m = Lies b m.created_at × Lies b m.marks
