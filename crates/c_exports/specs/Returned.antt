-- What the exported functions return: done and nothing left, and what reading and writing come to. Assumes nothing.
use Rattle.std.specs.Prelude.{ℕ, ◌+◌, ◌*◌, ◌^◌, cond}
use Rattle.c_code.specs.Codes.{refusal_code, done_code}
use Rattle.model_text.specs.Version.{is_version}
use Rattle.model_frame.specs.Refusal
use Rattle.model_frame.specs.Writing.{WriteAnswer, took}
use Rattle.model_frame.specs.Writing as writing
use Rattle.model_frame.specs.Frame.{Field, frameKind, part, refusal, change, Fault, too_long, truncated, unknown, bad_text, bad_session, bad_timestamp, bad_marks, fault_number, Decoded, more, faulty, got}

-- done, and nothing is left
abbrev pub last_code : ℕ
last_code = 2 ^ 63 + 2 ^ 62

-- 11 for a version that there isn't, first of all
abbrev pub in_version : ℕ → ℕ → ℕ
in_version version code = cond (is_version version) code (refusal_code Refusal.bad_version 0)

-- ---- reading

-- the number of the field that has an unknown byte
abbrev pub field_number : Field → ℕ
field_number frameKind = 0
field_number part = 1
field_number refusal = 2
field_number change = 3

-- a length, a field and its byte, or nothing
abbrev pub fault_detail : Fault → ℕ
fault_detail (too_long n) = n
fault_detail truncated = 0
fault_detail (unknown f v) = field_number f * 256 + v
fault_detail bad_text = 0
fault_detail bad_session = 0
fault_detail bad_timestamp = 0
fault_detail bad_marks = 0

-- a fault of reading, by its number
abbrev pub fault_code : Fault → ℕ
fault_code e = refusal_code (fault_number e) (fault_detail e)

-- what reading comes to: 0 where more is needed, a fault, or the bytes taken
abbrev pub read_code : Decoded → ℕ
read_code more = 0
read_code (faulty e) = fault_code e
read_code (got f used) = done_code used

-- what writing comes to: a refusal, or the bytes written
abbrev pub written_code : WriteAnswer → ℕ
written_code (took n) = done_code n
written_code (writing.write_refusal n) = refusal_code n 0

-- the same for a frame that was read: the bytes taken
abbrev pub taken_code : ℕ → WriteAnswer → ℕ
taken_code used (took n) = done_code used
taken_code used (writing.write_refusal n) = refusal_code n 0
