use Rattle.std.specs.Prelude.{[]}
use Rattle.active_books_listing.proofs.Listing.{Gathering}
use Rattle.active_books_listing.proofs.count_known.Given as goal

abbrev pub invariant-loop-place : goal.invariant-loop-place
invariant-loop-place l = Gathering l.books.words.now l.listing [] l.place
