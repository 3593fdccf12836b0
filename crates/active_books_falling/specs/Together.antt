-- What the parts by which several fall behind promise. Assumes nothing.
use Rattle.std.specs.Prelude.{not, ◌&&◌, List, ℕ, filter}
use Rattle.model_active.specs.CatchUp.{member}
use Rattle.active_books_area.specs.Words.{book_of}

-- those of some sessions that are listed and aren't behind
abbrev pub fallen_listed : List ℕ → List ℕ → List ℕ → List ℕ
fallen_listed w l ss = filter (λ s. member s l && not (member s (book_of w).behind)) ss
