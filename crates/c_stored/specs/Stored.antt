-- The place of a key and a message by its number, as one number each: 0 where nothing is stored under it; the lowest number. Assumes nothing.
use Rattle.std.specs.Prelude as prelude
use Rattle.std.specs.Prelude.{◌≡◌, ℕ, cond, max, List, [], ◌∷◌, ◌++◌, length, eqb, leb, Some, None}
use Rattle.std.proofs.Math.Option.{Option, none, some}
use Rattle.model_frame.specs.Bytes.{write}
use Rattle.model_frame.specs.Refusal
use Rattle.model_session.specs.Session.{Msg}
use Rattle.model_session.specs.Summary.{numbered_from}
use Rattle.frame_reader.specs.Answers.{span_of}
use Rattle.store_areas.specs.declared.Shape.{Shape}
use Rattle.store_areas.specs.Areas.{in_use, place_at}
use Rattle.store_sessions.specs.Answers.{Answered, gives, refuses}
use Rattle.store_sessions.specs.declared.Message.{Message}
use Rattle.c_store.specs.declared.StoreAnswer.{StoreAnswer}
use Rattle.c_store.specs.Total.{with_value, refused}
use Rattle.c_code.specs.Codes.{refusal_code, done_code}

-- nothing is stored under this key, or under this number
abbrev pub not_stored : ℕ
not_stored = 0

-- ---- the place of a key

abbrev pub place_code : Answered (prelude.Option ℕ) → ℕ
place_code (gives (Some i)) = done_code i
place_code (gives None) = not_stored
place_code (refuses n) = refusal_code n 0

-- ---- one message

-- the stored message with number n
abbrev pub message_of : ℕ → List Msg → Option (List ℕ)
message_of n [] = none
message_of n (m ∷ ms) = cond (eqb m.num n) (some m.text) (message_of n ms)

-- a text is written, or 9 where the area is too short
abbrev pub text_code : List ℕ → List ℕ → ℕ
text_code text out = cond (leb (length text) (length out)) (done_code (length text)) (refusal_code Refusal.no_room 0)

abbrev pub text_area : List ℕ → List ℕ → List ℕ
text_area text out = cond (leb (length text) (length out)) (write out 0 text) out

abbrev pub message_code : Option (List ℕ) → List ℕ → ℕ
message_code none out = not_stored
message_code (some text) out = text_code text out

abbrev pub message_area : Option (List ℕ) → List ℕ → List ℕ
message_area none out = out
message_area (some text) out = text_area text out

-- the message with number n of the session at place i: 25 where the rules are broken or the place isn't in use; then 0 where none is stored; then 9
pub record TellsMessage (s : Shape) (w b : List ℕ) (i n : ℕ) (out out' : List ℕ) (r : ℕ) : Type 0 where
  pub answer : r ≡ cond (in_use s w b i) (message_code (message_of n (place_at s w b i).stored.session.messages) out) (refusal_code Refusal.rules_broken 0)
  pub area : out' ≡ cond (in_use s w b i) (message_area (message_of n (place_at s w b i).stored.session.messages) out) out

-- ---- the lowest number still stored: 0 and the number, or the refusal

abbrev pub lowest_answer : Answered ℕ → StoreAnswer
lowest_answer (gives n) = with_value n
lowest_answer (refuses n) = refused n

-- ---- of functions within

pub record TellsText (text out out' : List ℕ) (r : ℕ) : Type 0 where
  pub answer : r ≡ text_code text out
  pub area : out' ≡ text_area text out

-- the first of these messages, if its number is n
abbrev pub first_is : ℕ → List Msg → Option (List ℕ)
first_is n [] = none
first_is n (m ∷ ms) = cond (eqb m.num n) (some m.text) none

-- the two parts of the byte area where a message stands
abbrev pub found_text : List ℕ → prelude.Option Message → Option (List ℕ)
found_text b None = none
found_text b (Some m) = some (span_of b m.first ++ span_of b m.second)

-- the first message from n on, if its number is n
abbrev pub FoundIs : ℕ → List Msg → List ℕ → prelude.Option Message → Type 0
FoundIs n ms b r = found_text b r ≡ first_is n (numbered_from (max n 1) ms)
