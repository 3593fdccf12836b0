-- What a text for the screen comes to across the boundary. Assumes nothing.
use Rattle.std.specs.Prelude.{◌≡◌, ℕ, List, length}
use Rattle.std.proofs.Math.Option.{Option}
use Rattle.model_frame.specs.Writing.{WriteAnswer, took, area_after, write_answer}
use Rattle.model_frame.specs.Writing as writing
use Rattle.screen_text.specs.Told.{text_outcome}
use Rattle.c_code.specs.Codes.{refusal_code, done_code}

-- done with a count, or a refusal
abbrev pub answer_code : WriteAnswer → ℕ
answer_code (took n) = done_code n
answer_code (writing.write_refusal n) = refusal_code n 0

-- the text's bytes, or none, which is 25; 9 where the area is too short; the area as that leaves it
pub record TellsScreen (text : Option (List ℕ)) (out out' : List ℕ) (r : ℕ) : Type 0 where
  pub answer : r ≡ answer_code (write_answer (text_outcome text (length out)))
  pub area : out' ≡ area_after (text_outcome text (length out)) out
