use Rattle.std.specs.Prelude.{◌≡◌}
use Rattle.active_books_falling.proofs.Falling.{Pushing}
use Rattle.active_books_falling.proofs.push_all.Given as goal

abbrev pub invariant-loop-session : goal.invariant-loop-session
invariant-loop-session l = (l.books.words.ghost_name ≡ l.initial.books.words.ghost_name) × Pushing l.initial.books.words.now l.fallen l.books.words.now l.session-index
