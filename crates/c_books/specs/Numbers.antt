-- An answer in numbers, for C: the refusal's number or 0; a byte that is 1 for wait, for one that is picked, and for yes; the session picked or 0. Assumes nothing.
use Rattle.std.specs.Prelude.{◌≡◌, cond, List, ℕ}
use Rattle.std.proofs.Math.Option.{none, some}
use Rattle.model_active.specs.CatchUp.{Call, Answer, refused, done, wait, picked, says}
use Rattle.active_books.specs.Calls.{BooksCalled, MakesNew, books_answer_to, answer_to_making, answer_to_behind}
use Rattle.c_books.specs.declared.Answered.{Answered}

abbrev pub refusal_byte : Answer → ℕ
refusal_byte (refused n) = n
refusal_byte done = 0
refusal_byte wait = 0
refusal_byte (picked o) = 0
refusal_byte (says b) = 0

abbrev pub flag_of : Answer → ℕ
flag_of (refused n) = 0
flag_of done = 0
flag_of wait = 1
flag_of (picked none) = 0
flag_of (picked (some s)) = 1
flag_of (says b) = cond b 1 0

abbrev pub session_told : Answer → ℕ
session_told (refused n) = 0
session_told done = 0
session_told wait = 0
session_told (picked none) = 0
session_told (picked (some s)) = s
session_told (says b) = 0

pub record InNumbers (a : Answer) (r : Answered) : Type 0 where
  pub refusal : r.refusal ≡ refusal_byte a
  pub flag : r.flag ≡ flag_of a
  pub session : r.session ≡ session_told a

-- a call answers the definition's answer in numbers, and leaves what it leaves
pub record CallsInNumbers (w w' : List ℕ) (c : Call) (r : Answered) : Type 0 where
  pub numbers : InNumbers (books_answer_to w c) r
  pub called : BooksCalled w w' c (books_answer_to w c)

pub record MakesBooks (w w' : List ℕ) (r : Answered) : Type 0 where
  pub numbers : InNumbers (answer_to_making w) r
  pub made : MakesNew w w' (answer_to_making w)

abbrev pub TellsBehind : List ℕ → ℕ → Answered → Type 0
TellsBehind w s r = InNumbers (answer_to_behind w s) r
