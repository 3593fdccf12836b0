-- What the store's functions for C and Rust answer, by document 01's numbers, and what they leave. Assumes nothing.
use Rattle.std.specs.Prelude.{◌≡◌, ℕ, Bool, true, false, cond, not, ◌&&◌, List, set, eqb, leb, ltb, Result, Ok, Err}
use Rattle.base_refusals.specs.Numbers.{number_of}
use Rattle.base_refusals.specs.declared.Refusal as declared
use Rattle.model_text.specs.Printable.{is_key, is_marks}
use Rattle.model_text.specs.Stamp.{is_stamp}
use Rattle.model_frame.specs.Refusal
use Rattle.model_frame.specs.Frame.{Key}
use Rattle.model_session.specs.Session.{Session, top}
use Rattle.model_standby.specs.Store.{Stored, place_of, is_stored}
use Rattle.store_areas.specs.StoreWord
use Rattle.store_areas.specs.declared.Shape.{Shape}
use Rattle.store_areas.specs.Areas.{roomy, allowed, in_use, place_at, places_of, Changed, used_of}
use Rattle.store_sessions.specs.Answers.{Opened}
use Rattle.c_store.specs.declared.StoreAnswer.{StoreAnswer}

-- the session at place i
abbrev pub session_in : Shape → List ℕ → List ℕ → ℕ → Session
session_in s w b i = (place_at s w b i).stored.session

-- an answer with its value; a refusal, which has none
abbrev pub with_value : ℕ → StoreAnswer
with_value v = record { refusal = 0; value = v }

abbrev pub refused : ℕ → StoreAnswer
refused n = record { refusal = n; value = 0 }

-- what a call came to: a value, or a refusal
abbrev pub answered : Result ℕ declared.Refusal → StoreAnswer
answered (Ok v) = with_value v
answered (Err e) = refused (number_of e)

-- what is read of it; 25 where the rules are broken or the place isn't in use
pub record Reads (s : Shape) (w b : List ℕ) (i : ℕ) (f : Session → ℕ) (r : StoreAnswer) : Type 0 where
  pub answer : r ≡ cond (in_use s w b i) (with_value (f (session_in s w b i))) (refused Refusal.rules_broken)

-- making: 25 leaves all as it was; else no place is in use and no commit is pending
pub record MadeIs (s : Shape) (w w' b : List ℕ) (r : ℕ) : Type 0 where
  pub answer : r ≡ cond (roomy s w b) 0 Refusal.rules_broken
  pub words : w' ≡ cond (roomy s w b) (set (set w StoreWord.used 0) StoreWord.pending 0) w

-- ---- why a change can't be made: the refusal's number, 0 where it can

-- an outgoing number that can't be recorded; the documents, whose numbers are 1 to 39, have none for it
abbrev pub not_recorded : ℕ
not_recorded = 40

-- with its message, of the next number: none is left
abbrev pub why_no_record : ℕ → ℕ
why_no_record next = cond (ltb next top) 0 not_recorded

-- without message: below the next number, or 2^64 - 1
abbrev pub why_no_bare_record : ℕ → ℕ → ℕ
why_no_bare_record next seq = cond (leb next seq && ltb seq top) 0 not_recorded

abbrev pub why_no_stamp : List ℕ → ℕ
why_no_stamp text = cond (is_stamp text) 0 Refusal.bad_timestamp

abbrev pub why_no_marks : List ℕ → ℕ
why_no_marks text = cond (is_marks text) 0 Refusal.bad_marks

-- a change of what is stored at place i: 25 where the rules are broken or the place isn't in use, then why it can't be made, and all is as it was;
-- else it is made, and nothing outside the place changes
pub record ChangeIs (s : Shape) (i why : ℕ) (f : Stored → Stored) (w w' b b' : List ℕ) (r : ℕ) : Type 0 where
  pub answer : r ≡ cond (in_use s w b i) why Refusal.rules_broken
  pub made : r ≡ 0 → Changed s i f w w' b b'
  pub still : eqb r 0 ≡ false → (w' ≡ w) × (b' ≡ b)

-- ---- opening

-- it is a key
abbrev pub is_key_of : Key → Bool
is_key_of k = is_key k.begin k.sender k.target k.suffix

-- a place is free
abbrev pub has_free_place : Shape → List ℕ → Bool
has_free_place s w = ltb (used_of w) s.places

-- its session is new: the rules are kept, it is a key, it has no session, and there is a place for it
abbrev pub opens_new : Shape → List ℕ → List ℕ → Key → Bool
opens_new s w b k = (allowed s w b && is_key_of k) && (not (is_stored k (places_of s w b)) && has_free_place s w)

-- the place of the key, where its session is new if it had none: 25 broken rules, 5 no key, 20 no free place, and all is as it was
pub record OpenIs (s : Shape) (k : Key) (w w' b b' : List ℕ) (r : StoreAnswer) : Type 0 where
  pub answer : r ≡ cond (allowed s w b)
      (cond (is_key_of k)
      (cond (is_stored k (places_of s w b)) (with_value (place_of k (places_of s w b))) (cond (has_free_place s w) (with_value (place_of k (places_of s w b))) (refused Refusal.no_session_place)))
      (refused Refusal.bad_session))
      (refused Refusal.rules_broken)
  pub opened : opens_new s w b k ≡ true → Opened s k w w' b b'
  pub still : opens_new s w b k ≡ false → (w' ≡ w) × (b' ≡ b)
