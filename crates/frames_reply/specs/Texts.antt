-- The text of an answer. Assumes nothing.
use Rattle.std.specs.Prelude.{ℕ, cond, List, [], eqb}
use Rattle.std.proofs.Math.Option.{some}
use Rattle.model_text.specs.Hex.{hex_of, refusal_text}
use Rattle.model_standby.specs.Answer.{reply, refused, done}
use Rattle.model_standby.specs.Answer as the-answer
use Rattle.model_frame.specs.Writing as the-writing
use Rattle.model_frame.specs.Writing.{write_outcome, wrote}
use Rattle.standby_state.specs.declared.Answer.{Answer}
use Rattle.standby_reply.specs.Replies.{frame_for}

-- the digits of what was written, or R and the number
abbrev pub outcome_text : the-writing.WriteOutcome → List ℕ
outcome_text (wrote bs) = hex_of bs
outcome_text (the-writing.refused n) = refusal_text n

-- written in a version: the digits of the frame that is answered, which may take so many bytes, or R and the refusal; no frame is answered with 'done'
abbrev pub answer_text : ℕ → ℕ → the-answer.Answer → List ℕ
answer_text version room (reply f) = outcome_text (write_outcome version (some f) room)
answer_text version room (refused n) = refusal_text n
answer_text version room done = []

-- the same of an answer's record, whatever stands in it: what is no frame is refused as in writing, with 8
abbrev pub record_text : ℕ → ℕ → List ℕ → Answer → List ℕ
record_text version room b a = cond (eqb a.refusal 0) (cond (eqb a.kind 0) [] (outcome_text (write_outcome version (frame_for b a) room))) (refusal_text a.refusal)
