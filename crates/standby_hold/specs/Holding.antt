-- Holding a part of a session that is sent whole: 16, 17, 18, or its changes after those held. Assumes nothing.
use Rattle.std.specs.Prelude.{◌≡◌, cond, not, ◌&&◌, List, ℕ, ◌+◌, min, length, ltb, eqb, Result, Ok, Err}
use Rattle.model_frame.specs.Refusal
use Rattle.model_frame.specs.Bytes.{write}
use Rattle.model_frame.specs.Frame.{Change}
use Rattle.model_frame.specs.Parse.{is_empty}
use Rattle.model_frame.specs.Sizes.{sizes}
use Rattle.model_session.specs.Session.{message_bytes, top}
use Rattle.model_standby.specs.Standby.{max_whole, starts_with_reset}
use Rattle.frame_op.specs.Answers.{held_run}
use Rattle.standby_segments.specs.Segments.{Holds, held_in}
use Rattle.standby_hold.specs.declared.HeldBytes.{HeldBytes}
use Rattle.standby_hold.specs.declared.HoldError.{HoldError}
use Rattle.standby_hold.specs.declared.NotHeld.{NotHeld}

-- the byte sum with these changes: with nothing held it counts from 0, and it stops at 2^64 - 1
abbrev pub sum_of : List Change → ℕ → List Change → ℕ
sum_of held sum cs = min (cond (is_empty held) 0 sum + message_bytes cs) top

-- 0, or the refusal
abbrev pub hold_refusal_for : List Change → ℕ → List Change → ℕ → ℕ
hold_refusal_for held sum cs room =
    cond (is_empty held && not (starts_with_reset cs)) Refusal.no_reset
    (cond (ltb max_whole (sum_of held sum cs)) Refusal.too_many_bytes
    (cond (ltb room (sizes held + sizes cs)) Refusal.hold_area_full 0))

-- a refusal's number
abbrev pub hold_error_number : HoldError → ℕ
hold_error_number HoldError.NoReset = Refusal.no_reset
hold_error_number HoldError.TooManyBytes = Refusal.too_many_bytes
hold_error_number HoldError.AreaFull = Refusal.hold_area_full

-- 0, or the refusal's number, as it is answered
abbrev pub hold_refusal : Result HeldBytes NotHeld → ℕ
hold_refusal (Ok h) = 0
hold_refusal (Err e) = hold_error_number e.why

-- what is held, as the answer tells
abbrev pub told_held : Result HeldBytes NotHeld → HeldBytes
told_held (Ok h) = h
told_held (Err e) = e.held

-- over the area as it was and its bytes as they are, with so many bytes of it held, and their byte sum
pub record HoldIs (version : ℕ) (run : List ℕ) (area : Holds) (len sum : ℕ) (bytes' : List ℕ) (r : Result HeldBytes NotHeld) : Type 0 where
  pub refusal : hold_refusal r ≡ hold_refusal_for (held_in version area len) sum (held_run version run) (length area.bytes)
  pub summed : (told_held r).sum ≡ sum_of (held_in version area len) sum (held_run version run)
  pub ends : (told_held r).used ≡ cond (eqb (hold_refusal r) 0) (sizes (held_in version area len) + length run) (sizes (held_in version area len))
  pub written : bytes' ≡ cond (eqb (hold_refusal r) 0) (write area.bytes (sizes (held_in version area len)) run) area.bytes
