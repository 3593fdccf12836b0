-- What is told of a place of the store: 25, 9 or the bytes of its session. Assumes nothing.
use Rattle.std.specs.Prelude.{ℕ, ◌≡◌, Bool, cond, List, ◌∷◌, ◌++◌, leb, length, Result, Ok, Err}
use Rattle.std.proofs.Math.Option.{Option, none, some}
use Rattle.model_frame.specs.Refusal
use Rattle.model_frame.specs.Writing.{key_bytes, summary_bytes, WriteOutcome, wrote, refused, area_after, WriteAnswer, took, write_refusal, write_answer}
use Rattle.model_session.specs.Summary.{summary}
use Rattle.model_standby.specs.Store.{Place}
use Rattle.model_standby.specs.Row.{is_some}
use Rattle.frame_reader.specs.declared.Span.{Span}
use Rattle.store_areas.specs.declared.Shape.{Shape}
use Rattle.store_areas.specs.Areas.{in_use, place_at}
use Rattle.base_refusals.specs.Numbers.{number_of}
use Rattle.base_refusals.specs.declared.Refusal.{Refusal}

-- a text that stands at a position
abbrev pub span_at : ℕ → List ℕ → Span
span_at at text = record { at = at; len = length text }

-- a byte that is 1 or 0
abbrev pub flag : Bool → ℕ
flag t = cond t 1 0

-- a session as bytes: whether it is durable, whether a number is in flight, its key's four texts, and its summary as a Bound has it, with last_outgoing over n
unfoldable pub told_bytes : Place → ℕ → List ℕ
told_bytes x n =
    flag x.stored.durable ∷ flag (is_some x.stored.session.in_flight)
    ∷ (key_bytes x.key ++ summary_bytes (summary x.stored.session n))

-- the bytes of the session at place i; none where the areas break the rules or the place is not in use
unfoldable pub told_at : Shape → List ℕ → List ℕ → ℕ → ℕ → Option (List ℕ)
told_at s w b i n = cond (in_use s w b i) (some (told_bytes (place_at s w b i) n)) none

-- 25 for none, 9 where the area has less room than the bytes take
unfoldable pub session_outcome : Option (List ℕ) → ℕ → WriteOutcome
session_outcome none room = refused Refusal.rules_broken
session_outcome (some bs) room = cond (leb (length bs) room) (wrote bs) (refused Refusal.no_room)

-- an answer's number
abbrev pub told_of : Result ℕ Refusal → WriteAnswer
told_of (Ok n) = took n
told_of (Err e) = write_refusal (number_of e)

-- the answer is the outcome's; the area has the bytes at its start and the rest as it was, and a refusal leaves all of it
pub record TellsSession (bytes : Option (List ℕ)) (before after : List ℕ) (r : Result ℕ Refusal) : Type 0 where
  pub answer : told_of r ≡ write_answer (session_outcome bytes (length before))
  pub area : after ≡ area_after (session_outcome bytes (length before)) before
