use Rattle.std.specs.Prelude.{◌≡◌}
use Rattle.active_books_listing.proofs.Listing.{Appending}
use Rattle.active_books_listing.proofs.append_all.Given as goal

abbrev pub invariant-loop-session : goal.invariant-loop-session
invariant-loop-session l = (l.books.words.ghost_name ≡ l.initial.books.words.ghost_name) × Appending l.initial.books.words.now l.fresh l.books.words.now l.session-index
