-- What each exported function leaves and returns. Assumes nothing.
use Rattle.std.specs.Prelude.{◌≡◌, ℕ, cond, List, [], length, ltb, eqb}
use Rattle.std.proofs.Math.Option.{Option}
use Rattle.model_text.specs.Version.{is_version}
use Rattle.model_frame.specs.Refusal
use Rattle.model_frame.specs.Frame.{Frame, Decoded, more, faulty, got}
use Rattle.model_frame.specs.Reading.{decode}
use Rattle.model_frame.specs.Writing.{encode, WriteOutcome, wrote, refused, write_outcome, area_after, write_answer}
use Rattle.standby_state.specs.declared.Answer.{Answer}
use Rattle.standby_reply.specs.Replies.{frame_for}
use Rattle.c_session.specs.Telling as telling
use Rattle.store_areas.specs.declared.Shape.{Shape}
use Rattle.c_exports.specs.Returned.{in_version, fault_code, written_code, taken_code}

-- ---- a frame that was read, written again

-- what is written, or a refusal, and the area as that leaves it
pub record Again (used : ℕ) (o : WriteOutcome) (out out' : List ℕ) (r : ℕ) : Type 0 where
  pub answer : r ≡ taken_code used (write_answer o)
  pub area : out' ≡ area_after o out

-- 9 where the area is too short; else the frame's bytes
abbrev pub rewritten : Frame → ℕ → WriteOutcome
rewritten f room = cond (ltb room (length (encode f))) (refused Refusal.no_room) (wrote (encode f))

-- 0 where more is needed, a fault, or the bytes taken and written again
abbrev pub frame_code : Decoded → ℕ → ℕ
frame_code more room = 0
frame_code (faulty e) room = fault_code e
frame_code (got f used) room = taken_code used (write_answer (rewritten f room))

abbrev pub frame_area : Decoded → List ℕ → List ℕ
frame_area more out = out
frame_area (faulty e) out = out
frame_area (got f used) out = area_after (rewritten f (length out)) out

pub record Rewrites (d : Decoded) (out out' : List ℕ) (r : ℕ) : Type 0 where
  pub answer : r ≡ frame_code d (length out)
  pub area : out' ≡ frame_area d out

-- bytes that are read in a version; in another 11, and the area is as it was
pub record RewritesIn (version : ℕ) (w out out' : List ℕ) (r : ℕ) : Type 0 where
  pub answer : r ≡ in_version version (frame_code (decode version w) (length out))
  pub area : out' ≡ cond (is_version version) (frame_area (decode version w) out) out

-- ---- sessions

-- how many places, the bytes of each, the messages of each
abbrev pub shape_of : ℕ → ℕ → ℕ → Shape
shape_of sessions c m = record { places = sessions; bytes = c; messages = m }

-- the bytes of a session, or none, which is 25; 9 where the area is too short; the area as that leaves it
pub record TellsPlace (bytes : Option (List ℕ)) (out out' : List ℕ) (r : ℕ) : Type 0 where
  pub answer : r ≡ written_code (write_answer (telling.session_outcome bytes (length out)))
  pub area : out' ≡ area_after (telling.session_outcome bytes (length out)) out

-- ---- the standby's answers

-- 11 for a version that there isn't; a refusal is itself, done is no bytes; a frame is written, or refused as in writing: 8 for what is no frame
abbrev pub told : ℕ → List ℕ → Answer → ℕ → WriteOutcome
told version b a room =
    cond (is_version version) (cond (eqb a.refusal 0) (cond (eqb a.kind 0) (wrote []) (write_outcome version (frame_for b a) room)) (refused a.refusal))
    (refused Refusal.bad_version)

-- that outcome's number, and the area as it leaves it
pub record TellsAnswer (version : ℕ) (b : List ℕ) (a : Answer) (out out' : List ℕ) (r : ℕ) : Type 0 where
  pub answer : r ≡ written_code (write_answer (told version b a (length out)))
  pub area : out' ≡ area_after (told version b a (length out)) out
