-- What the code's answers stand for: a value and what is left of the buffer, or a fault. Assumes nothing.
use Rattle.std.specs.Prelude.{ℕ, ◌+◌, ◌≤◌, List, length, take, drop, Result, Ok, Err}
use Rattle.model_frame.specs.Frame as the_frame
use Rattle.model_frame.specs.Frame.{Fault, too_long, truncated, unknown, bad_text, bad_session, bad_timestamp, bad_marks}
use Rattle.model_frame.specs.Parse.{Res, ok, bad}
use Rattle.frame_reader.specs.declared.FrameError.{FrameError}
use Rattle.frame_reader.specs.declared.Field.{Field}
use Rattle.frame_reader.specs.declared.Value.{Value}
use Rattle.frame_reader.specs.declared.Span.{Span}
use Rattle.frame_reader.specs.declared.Reader.{Reader}

abbrev pub field_of : Field → the_frame.Field
field_of Field.FrameKind = the_frame.frameKind
field_of Field.Part = the_frame.part
field_of Field.Refusal = the_frame.refusal
field_of Field.Change = the_frame.change

abbrev pub invalid_of : Value → Fault
invalid_of Value.Text = bad_text
invalid_of Value.Session = bad_session
invalid_of Value.Timestamp = bad_timestamp
invalid_of Value.Marks = bad_marks

abbrev pub fault_of : FrameError → Fault
fault_of (FrameError.TooLong n) = too_long n
fault_of (FrameError.Unknown f k) = unknown (field_of f) k
fault_of FrameError.Truncated = truncated
fault_of (FrameError.Invalid v) = invalid_of v

abbrev pub span_of : List ℕ → Span → List ℕ
span_of b p = take p.len (drop p.at b)

-- the bytes that are left
abbrev pub rest : Reader → List ℕ
rest r = drop r.at r.buf.now

-- what was read, as a value, and what is left where the reader stands now; or the fault
abbrev pub res : {T A : Type 0} → (T → A) → Reader → Result T FrameError → Res A
res f r (Ok v) = ok (f v) (rest r)
res f r (Err e) = bad (fault_of e)

-- a span lies in the buffer, so none of its bytes is cut off
abbrev pub Lies : List ℕ → Span → Type 0
Lies b p = p.at + p.len ≤ length b
