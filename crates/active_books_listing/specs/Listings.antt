-- What the parts that meet a listing promise. Assumes nothing.
use Rattle.std.specs.Prelude.{◌≡◌, List, ◌++◌, ℕ, ◌+◌, ◌≤◌, ◌<◌, length, drop, map, Result, Ok, Err}
use Rattle.arrayvec.specs.ArrayVec.{ArrayVec}
use Rattle.base_refusals.specs.declared.Refusal.{Refusal}
use Rattle.model_active.specs.CatchUp.{new, met_now, meeting}
use Rattle.active_books_area.specs.Words.{book_of, met_count_of}
use Rattle.active_books_area.specs.Parts.{MakesBook}

-- the first k of the listing were met before
pub record KnownFirst (w l : List ℕ) (k : ℕ) : Type 0 where
  pub upto : k ≤ length l
  pub left : meeting l (book_of w).met ≡ meeting (drop k l) (book_of w).met

-- these of the listing are new, and there is room for them
pub record AreNew (w l fresh : List ℕ) : Type 0 where
  pub meets : meeting l (book_of w).met ≡ (book_of w).met ++ map new fresh
  pub fit : met_count_of w + length fresh ≤ 256

-- there is no room for all of the listing
pub record NoRoom (w l : List ℕ) (e : Refusal) : Type 0 where
  pub refusal : e ≡ Refusal.TooManySessions
  pub full : 256 < length (meeting l (book_of w).met)

-- these of the listing are new, in the list that was lent, or there is no room for all
abbrev pub Gathers : List ℕ → List ℕ → ArrayVec ℕ → Result (Unit {0}) Refusal → Type 0
Gathers w l fresh (Ok _) = AreNew w l fresh.items
Gathers w l fresh (Err e) = NoRoom w l e

-- all of the listing are met, or there is no room and no word changed
abbrev pub MeetsListed : List ℕ → List ℕ → List ℕ → Result (Unit {0}) Refusal → Type 0
MeetsListed w w' l (Ok _) = MakesBook w w' (met_now (book_of w) (meeting l (book_of w).met))
MeetsListed w w' l (Err e) = NoRoom w l e × (w' ≡ w)
