use Rattle.model_active.specs.CatchUp.{open_only}
use Rattle.active_books_falling.proofs.Falling.{Falls}
use Rattle.active_books_falling.proofs.fallen_open.Given as goal

abbrev pub invariant-loop-k : goal.invariant-loop-k
invariant-loop-k l = Falls l.books.words.now (open_only l.incarnation.0) l.fallen.items l.k
