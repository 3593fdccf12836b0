-- The programs `frames` (document 01, "Hexadecimal lines") and `lowest`: their settings, what they answer to a line, and their output for an input. Assumes nothing.
use Rattle.std.specs.Prelude.{ℕ, true, List, [], ◌∷◌, ◌++◌, decimal}
use Rattle.std.proofs.Math.Option.{Option, none, some}
use Rattle.model_text.specs.Hex.{hex_of, line_bytes, refusal_text}
use Rattle.model_text.specs.Lines.{feed, lines_of}
use Rattle.model_frame.specs.Refusal
use Rattle.model_frame.specs.Writing.{encode}
use Rattle.model_standby.specs.Answer.{Answer, reply, refused, done}
use Rattle.model_standby.specs.State.{Settings, Standby, Result, Call, on_frame, new_standby}
use Rattle.model_standby.specs.Standby.{step}
use Rattle.model_lowest.specs.Lowest.{handed_up}

-- incarnation 7, lag 0, C 4,096, M 64, four sessions, hold areas of 5,626 bytes
abbrev pub frames_settings : Settings
frames_settings = record { C = 4096; M = 64; S = 4; room = 5626; incarnation = 7; lag = 0 }

-- four handles, no session yet
abbrev pub frames_start : Standby
frames_start = new_standby [] 4

-- ---- a line

-- the digits of the frame that is answered, or R and the refusal; no frame is answered with 'done'
abbrev pub line_text : Answer → List ℕ
line_text (reply f) = hex_of (encode f)
line_text (refused n) = refusal_text n
line_text done = []

pub record Spoken : Type 0 where
  pub state : Standby
  pub text : List ℕ

-- what a call gives, as a text
abbrev pub spoken : Result → Spoken
spoken r = record { state = r.state; text = line_text r.answer }

-- 26 for a line that has no bytes, and nothing changes; else the call
abbrev pub on_bytes : Settings → Standby → Option (List ℕ) → Spoken
on_bytes L st none = record { state = st; text = refusal_text Refusal.not_one_frame }
on_bytes L st (some f) = spoken (step L st (on_frame f))

abbrev pub line_step : Settings → Standby → List ℕ → Spoken
line_step L st l = on_bytes L st (line_bytes l)

-- ---- the program `lowest`, fed as `frames` is

-- the number in decimal, 0 where the session has no message; a hyphen where none is handed up
abbrev pub lowest_text : Option ℕ → List ℕ
lowest_text none = 45 ∷ []
lowest_text (some n) = decimal n

-- what a call from state st gives, where Commits tell it
abbrev pub lowest_spoken : Standby → Call → Result → Spoken
lowest_spoken st call r = record { state = r.state; text = lowest_text (handed_up true st call r) }

-- nothing changes by a line that has no bytes
abbrev pub lowest_on : Settings → Standby → Option (List ℕ) → Spoken
lowest_on L st none = record { state = st; text = lowest_text none }
lowest_on L st (some f) = lowest_spoken st (on_frame f) (step L st (on_frame f))

abbrev pub lowest_step : Settings → Standby → List ℕ → Spoken
lowest_step L st l = lowest_on L st (line_bytes l)

-- ---- a program: one line each, in order, with its line feed

abbrev pub answers_from : (Standby → List ℕ → Spoken) → Standby → List (List ℕ) → List ℕ
answers_from by st [] = []
answers_from by st (l ∷ ls) = (by st l).text ++ (feed ∷ answers_from by (by st l).state ls)

abbrev pub frames_output : List ℕ → List ℕ
frames_output input = answers_from (line_step frames_settings) frames_start (lines_of input)

abbrev pub lowest_output : List ℕ → List ℕ
lowest_output input = answers_from (lowest_step frames_settings) frames_start (lines_of input)
