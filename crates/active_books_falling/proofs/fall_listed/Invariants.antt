use Rattle.active_books_falling.proofs.Falling.{Listed}
use Rattle.active_books_falling.proofs.fall_listed.Given as goal

abbrev pub invariant-loop-place : goal.invariant-loop-place
invariant-loop-place l = Listed l.books.words.now l.listing l.sessions l.initial.fallen.items l.fallen.items l.place
