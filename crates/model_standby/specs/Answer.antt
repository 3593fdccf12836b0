-- What is handed in as a frame, and what is answered.
-- Assumes nothing.
use Rattle.std.specs.Prelude.{ℕ, List, Bool, true, false, cond, not, length, ltb, eqb}
use Rattle.std.proofs.Math.Option.{Option, none, some}
use Rattle.model_frame.specs.Frame.{Reason, stale_epoch, diverged, lag_too_great, restarted, Frame, hello, welcome, bind, batch, ack, nack, bound, checked, fault_number, Decoded, more, faulty, got}
use Rattle.model_frame.specs.Refusal
use Rattle.model_frame.specs.Reading.{decode}
use Rattle.model_standby.specs.Row.{is_some}

-- ---- what is handed in: bytes refused with this number (faulty, a part of a frame, more than a frame: two good ones too), or just one whole frame

pub data Given : Type 0 where
  damaged : ℕ → Given
  intact : Frame → Given

-- of so many bytes
abbrev pub judged : ℕ → Decoded → Given
judged size more = damaged Refusal.not_one_frame
judged size (faulty e) = damaged (fault_number e)
judged size (got f used) = cond (eqb used size) (intact f) (damaged Refusal.not_one_frame)

-- read in a version: the reader's number, or 26 if the bytes aren't just one whole frame
unfoldable pub given : ℕ → List ℕ → Given
given version w = judged (length w) (decode version w)

-- the handle to look up: a Bind's or a Batch's; no other frame needs one
abbrev pub handle_in : Given → ℕ
handle_in (damaged n) = 0
handle_in (intact (hello v e node kinds)) = 0
handle_in (intact (welcome e i)) = 0
handle_in (intact (bind h e lag k)) = h
handle_in (intact (batch h e n p cs apps)) = h
handle_in (intact (ack h n)) = 0
handle_in (intact (nack h r)) = 0
handle_in (intact (bound h m)) = 0
handle_in (intact (checked h e i)) = 0

-- the frame has an epoch, and it is below e
abbrev pub lower : ℕ → Frame → Bool
lower e (hello v e₁ node kinds) = ltb e₁ e
lower e (welcome e₁ i) = ltb e₁ e
lower e (bind h e₁ lag k) = ltb e₁ e
lower e (batch h e₁ n p cs apps) = ltb e₁ e
lower e (ack h n) = false
lower e (nack h r) = false
lower e (bound h s) = false
lower e (checked h e₁ i) = ltb e₁ e

-- ---- what is answered: a frame, a refusal by its number, or that it is done

pub data Answer : Type 0 where
  reply : Frame → Answer
  refused : ℕ → Answer
  done : Answer

-- the reason of a Nack
abbrev pub reason_in : Frame → Option Reason
reason_in (hello v e node kinds) = none
reason_in (welcome e i) = none
reason_in (bind h e lag k) = none
reason_in (batch h e n p cs apps) = none
reason_in (ack h n) = none
reason_in (nack h r) = some r
reason_in (bound h s) = none
reason_in (checked h e i) = none

abbrev pub is_diverged : Option Reason → Bool
is_diverged none = false
is_diverged (some stale_epoch) = false
is_diverged (some diverged) = true
is_diverged (some lag_too_great) = false
is_diverged (some restarted) = false

-- no refusal, no Nack
abbrev pub accepted : Answer → Bool
accepted (reply f) = not (is_some (reason_in f))
accepted (refused n) = false
accepted done = true

-- Nack Diverged
abbrev pub says_diverged : Answer → Bool
says_diverged (reply f) = is_diverged (reason_in f)
says_diverged (refused n) = false
says_diverged done = false

abbrev pub is_reply : Answer → Bool
is_reply (reply f) = true
is_reply (refused n) = false
is_reply done = false
