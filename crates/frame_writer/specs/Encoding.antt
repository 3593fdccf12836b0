-- What writing a frame gives: what the code's frame stands for in a source slice, then 8, 1, 9 or the bytes. Assumes nothing.
use Rattle.std.specs.Prelude.{ℕ, ◌+◌, ◌<◌, ◌≤◌, ◌≡◌, Bool, true, false, cond, ◌&&◌, List, leb, length, drop, Result, Ok, Err}
use Rattle.std.proofs.Math.Option.{Option, none, some}
use Rattle.model_frame.specs.Refusal
use Rattle.model_frame.specs.Bytes.{bytes_of}
use Rattle.model_frame.specs.Frame as the_frame
use Rattle.model_frame.specs.Frame.{Key, Frame}
use Rattle.model_frame.specs.Parse.{Res, ok, bad, Parser, many}
use Rattle.model_frame.specs.Reading.{max_body}
use Rattle.model_frame.specs.Writing.{WriteAnswer, took, write_refusal, write_outcome, area_after, write_answer}
use Rattle.base_laws.specs.Wrote.{Wrote}
use Rattle.frame_reader.specs.declared.Span.{Span}
use Rattle.frame_op.specs.declared.Run.{Run}
use Rattle.frame_fields.specs.declared.SessionId.{SessionId}
use Rattle.frame_fields.specs.declared.Summary.{Summary}
use Rattle.frame_writer.specs.declared.EncodeError.{EncodeError}

-- ---- what stands in the source: a span lies in it, a run can be read from it

abbrev pub span_fits : List ℕ → Span → Bool
span_fits src p = leb (p.at + p.len) (length src)

abbrev pub is_ok : {A : Type 0} → Res A → Bool
is_ok (ok a s) = true
is_ok (bad e) = false

abbrev pub run_reads : {A : Type 0} → Parser A → List ℕ → Run → Bool
run_reads p src r = is_ok (many r.count p (drop r.at src))

abbrev pub key_fits : List ℕ → SessionId → Bool
key_fits src k = ((span_fits src k.begin_string && span_fits src k.sender_comp_id) && span_fits src k.target_comp_id) && span_fits src k.key_suffix

abbrev pub summary_fits : List ℕ → Summary → Bool
summary_fits src m = span_fits src m.created_at && span_fits src m.marks

-- how many bytes a key and a summary take
abbrev pub key_size : Key → ℕ
key_size k = 16 + length k.begin + length k.sender + length k.target + length k.suffix

abbrev pub summary_size : the_frame.Summary → ℕ
summary_size m = 40 + length m.stamp_text + length m.marks_text

-- a frame, if all of it stands in the source
abbrev pub frame_if : Bool → Frame → Option Frame
frame_if t f = cond t (some f) none

-- ---- the outcome, as the code has it

-- the number of each error
abbrev pub error_number : EncodeError → ℕ
error_number EncodeError.Unreadable = Refusal.unreadable
error_number EncodeError.TooLong = Refusal.too_long
error_number EncodeError.NoRoom = Refusal.no_room

abbrev pub written_of : Result ℕ EncodeError → WriteAnswer
written_of (Ok n) = took n
written_of (Err e) = write_refusal (error_number e)

pub record Encoded (version : ℕ) (f : Option Frame) (before after : List ℕ) (r : Result ℕ EncodeError) : Type 0 where
  pub answer : written_of r ≡ write_answer (write_outcome version f (length before))
  pub area : after ≡ area_after (write_outcome version f (length before)) before

-- the length in front of a body of n bytes, where there is room for both
abbrev pub Started : ℕ → List ℕ → List ℕ → Result ℕ EncodeError → Type 0
Started n before after (Ok k) = (n ≤ max_body) × (4 + n ≤ length before) × Wrote before 0 (bytes_of 4 n) after k × (k ≡ 4)
Started n before after (Err EncodeError.Unreadable) = ⊥
Started n before after (Err EncodeError.TooLong) = (max_body < n) × (after ≡ before)
Started n before after (Err EncodeError.NoRoom) = (n ≤ max_body) × (length before < 4 + n) × (after ≡ before)
