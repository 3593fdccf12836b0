-- What the code of the program `frames` answers to a line, by the definition (crates/model_lines/specs/Program.antt). Assumes nothing.
use Rattle.std.specs.Prelude.{ℕ, ◌≡◌, true, List, [], take, T, Some, None}
use Rattle.std.specs.Prelude as prelude
use Rattle.std.proofs.Math.Option.{none, some}
use Rattle.model_text.specs.Hex.{line_bytes, refusal_text}
use Rattle.model_frame.specs.Refusal
use Rattle.model_frame.specs.Bytes.{is_bytes}
use Rattle.model_standby.specs.State.{on_frame}
use Rattle.model_lines.specs.Program.{line_text, line_step}
use Rattle.base_hex.specs.Lines.{Puts}
use Rattle.standby_segments.specs.Segments.{Holds, hold_areas}
use Rattle.standby_row.specs.declared.Bound.{Bound}
use Rattle.standby_counters.specs.declared.Replica.{Replica}
use Rattle.standby_state.specs.declared.Settings.{Settings}
use Rattle.standby_state.specs.declared.Answer.{Answer}
use Rattle.standby_state.specs.Answers.{answer_of}
use Rattle.standby_state.specs.Outcomes.{settings_of}
use Rattle.standby_step.specs.Calls.{room_all, standby_of, allowed_all, Called}

-- `frames_settings`, as the code has them: four sessions, C 4,096, M 64, incarnation 7, lag 0; a hold area's length is that of the lent slice by the row's
abbrev pub the_settings : Settings
the_settings = record { shape = record { places = 4; bytes = 4096; messages = 64 }; incarnation = record { 0 = 7 }; max_lag = 0; tells_lowest = 1 }

-- the program's hold areas are too short for a closed segment, so it lends no words for them
abbrev pub no_ends : List ℕ → Holds
no_ends h = hold_areas h []

-- ---- a line on the lent areas: the call of its bytes, or nothing changes

pub record HearsCall (l : List ℕ) (c c' : Replica) (row row' : List Bound) (w w' b b' h h' : List ℕ) (a : Answer) : Type 0 where
  pub frame : List ℕ
  pub bytes : T (is_bytes frame)
  pub read : line_bytes l ≡ some frame
  pub call : Called the_settings (on_frame frame) c c' row row' w w' b b' (no_ends h) (no_ends h') a

abbrev pub Hears : List ℕ → Replica → Replica → List Bound → List Bound → List ℕ → List ℕ → List ℕ → List ℕ → List ℕ → List ℕ → prelude.Option Answer → Type 0
Hears l c c' row row' w w' b b' h h' None = (line_bytes l ≡ none) × (c' ≡ c) × (row' ≡ row) × (w' ≡ w) × (b' ≡ b) × (h' ≡ h)
Hears l c c' row row' w w' b b' h h' (Some a) = HearsCall l c c' row row' w w' b b' h h' a

-- ---- the same with the answer's text

pub data Heard (l : List ℕ) (c c' : Replica) (row row' : List Bound) (w w' b b' h h' : List ℕ) : List ℕ → Type 0 where
  unread : line_bytes l ≡ none → c' ≡ c → row' ≡ row → w' ≡ w → b' ≡ b → h' ≡ h → Heard l c c' row row' w w' b b' h h' (refusal_text Refusal.not_one_frame)
  called : (f : List ℕ) (a : Answer) → line_bytes l ≡ some f → Called the_settings (on_frame f) c c' row row' w w' b b' (no_ends h) (no_ends h') a → Heard l c c' row row' w w' b b' h h' (line_text (answer_of b' a))

-- the text stands at the start of the output area, the rest of which is as it was; and state and text are the definition's
pub record AnswersLine (l : List ℕ) (c c' : Replica) (row row' : List Bound) (w w' b b' h h' out out' : List ℕ) (len : ℕ) : Type 0 where
  pub text : List ℕ
  pub heard : Heard l c c' row row' w w' b b' h h' text
  pub puts : Puts text out out' len
  pub is : allowed_all the_settings row w b h ≡ true
      → record { state = standby_of the_settings c' row' w' b' (no_ends h'); text = take len out' } ≡ line_step (settings_of the_settings (room_all row h)) (standby_of the_settings c row w b (no_ends h)) l
