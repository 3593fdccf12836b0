-- FRAMES SURVIVE WRITING AND READING, ON THE CODE. Every frame value that `Frame::encode` writes, with its texts, changes and records in any
-- source, is what `Frame::decode` reads from the area it was written to, whatever bytes stand after it there, with the length that was written.
-- One thing is lost: an in-flight number 0 of a summary is read as none (`shown`). The other direction, that what was read is written again
-- byte for byte, is `written_again` in crates/frame/proofs/Again.antt. Assumes nothing.
use Rattle.std.specs.Prelude.{ℕ, ◌≡◌, Bool, true, false, List, length, drop, Result, Ok, Err}
use Rattle.model_frame.specs.Frame.{got}
use Rattle.model_frame.specs.Writing.{shown, WriteOutcome, wrote, refused, write_outcome}
use Rattle.frame_writer.specs.declared.EncodeError.{EncodeError}
use Rattle.frame.specs.declared.Frame.{Frame}
use Rattle.frame.specs.Answers.{frame_of, reading_of, frame_in}
use Rattle.theorem_round_trip.specs.declared.ReadAgain.{ReadAgain}

-- 8, 1 or 9
abbrev pub is_refused : WriteOutcome → Bool
is_refused (wrote bs) = false
is_refused (refused n) = true

-- f is a frame over src; before and after are the area's bytes
abbrev pub Survives : ℕ → List ℕ → Frame → List ℕ → List ℕ → Result ReadAgain EncodeError → Type 0
-- what was read is the frame and its n bytes, and all past them is as it was
Survives version src f before after (Ok r) = (reading_of version after r.read ≡ got (shown (frame_of version src f)) r.written) × (drop r.written after ≡ drop r.written before)
-- it couldn't be written, and the area is as it was
Survives version src f before after (Err e) = (is_refused (write_outcome version (frame_in version src f) (length before)) ≡ true) × (after ≡ before)
