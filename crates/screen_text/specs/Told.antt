-- What is told of a place of the store, as a text: 25, 9 or its bytes. Assumes nothing.
use Rattle.std.specs.Prelude.{ℕ, ◌≡◌, cond, List, leb, length, Result, Ok, Err}
use Rattle.std.proofs.Math.Option.{Option, none, some}
use Rattle.model_frame.specs.Refusal
use Rattle.model_frame.specs.Writing.{WriteOutcome, wrote, refused, area_after, WriteAnswer, took, write_refusal, write_answer}
use Rattle.base_refusals.specs.Numbers.{number_of}
use Rattle.base_refusals.specs.declared.Refusal.{Refusal}

-- 25 for none, 9 where the area has less room than the text takes
unfoldable pub text_outcome : Option (List ℕ) → ℕ → WriteOutcome
text_outcome none room = refused Refusal.rules_broken
text_outcome (some t) room = cond (leb (length t) room) (wrote t) (refused Refusal.no_room)

-- an answer's number
abbrev pub told_of : Result ℕ Refusal → WriteAnswer
told_of (Ok n) = took n
told_of (Err e) = write_refusal (number_of e)

-- the answer is the outcome's; the area has the text at its start and the rest as it was, and a refusal leaves all of it
pub record Tells (text : Option (List ℕ)) (before after : List ℕ) (r : Result ℕ Refusal) : Type 0 where
  pub answer : told_of r ≡ write_answer (text_outcome text (length before))
  pub area : after ≡ area_after (text_outcome text (length before)) before
