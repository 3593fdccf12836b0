-- What the parts that look for the next one look for. Assumes nothing.
use Rattle.std.specs.Prelude.{Bool, not, ◌&&◌, List, ℕ}
use Rattle.model_active.specs.CatchUp as m
use Rattle.active_books_area.specs.Words.{book_of}

abbrev pub is_closed : List ℕ → ℕ → Bool
is_closed w s = not (m.is_open s (book_of w).met)

abbrev pub is_wanting : List ℕ → ℕ → ℕ → Bool
is_wanting w i s = is_closed w s && not (m.is (m.compared_of s (book_of w).met) i)
