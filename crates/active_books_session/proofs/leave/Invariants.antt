use Rattle.std.specs.Prelude.{◌≡◌}
use Rattle.active_books_session.proofs.Leaving.{Leaving}
use Rattle.active_books_session.proofs.leave.Given as goal

abbrev pub invariant-loop-j : goal.invariant-loop-j
invariant-loop-j l = (l.books.words.ghost_name ≡ l.initial.books.words.ghost_name) × Leaving l.initial.books.words.now l.session l.m l.books.words.now l.j l.k
