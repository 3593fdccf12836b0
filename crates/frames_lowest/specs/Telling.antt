-- What the code of the program `lowest` tells of a line, by the definition (crates/model_lines/specs/Program.antt). Assumes nothing.
use Rattle.std.specs.Prelude.{ℕ, ◌≡◌, true, cond, List, take, decimal, Some, None}
use Rattle.std.specs.Prelude as prelude
use Rattle.std.proofs.Math.Option.{none}
use Rattle.base_flags.specs.Flag.{is_set}
use Rattle.model_lines.specs.Program.{lowest_text, lowest_step}
use Rattle.base_hex.specs.Lines.{Puts}
use Rattle.standby_row.specs.declared.Bound.{Bound}
use Rattle.standby_counters.specs.declared.Replica.{Replica}
use Rattle.standby_state.specs.declared.Answer.{Answer}
use Rattle.standby_state.specs.Outcomes.{settings_of}
use Rattle.standby_step.specs.Calls.{room_all, standby_of, allowed_all}
use Rattle.frames_line.specs.Answering.{no_ends, the_settings, Hears}

-- by an answer's record: the number where it hands one up, else a hyphen
abbrev pub record_text : Answer → List ℕ
record_text a = cond (is_set a.has_lowest) (decimal a.lowest) (lowest_text none)

abbrev pub heard_text : prelude.Option Answer → List ℕ
heard_text None = lowest_text none
heard_text (Some a) = record_text a

-- the text stands at the start of the output area, the rest of which is as it was; and state and text are the definition's
pub record TellsLine (l : List ℕ) (c c' : Replica) (row row' : List Bound) (w w' b b' h h' out out' : List ℕ) (len : ℕ) : Type 0 where
  pub answer : prelude.Option Answer
  pub hears : Hears l c c' row row' w w' b b' h h' answer
  pub puts : Puts (heard_text answer) out out' len
  pub is : allowed_all the_settings row w b h ≡ true
      → record { state = standby_of the_settings c' row' w' b' (no_ends h'); text = take len out' } ≡ lowest_step (settings_of the_settings (room_all row h)) (standby_of the_settings c row w b (no_ends h)) l
