-- What picking the next one promises. Assumes nothing.
use Rattle.std.specs.Prelude.{◌≡◌, List, ℕ}
use Rattle.model_active.specs.CatchUp as m
use Rattle.active_books_area.specs.Words.{book_of}
use Rattle.active_books_area.specs.Parts.{MakesBook}

-- who is next, all listed being met
pub record Picks (w w' l : List ℕ) (i : ℕ) (a : m.Answer) : Type 0 where
  pub makes : MakesBook w w' (m.catching_now (book_of w) (m.pick (book_of w) l i))
  pub answer : a ≡ m.picked (m.pick (book_of w) l i)
