use Rattle.active_books_area.specs.Words.{book_of}
use Rattle.active_books_area.proofs.Area.{flag_0, flag_is}
use Rattle.active_books_area.proofs.BooksView.is_acknowledged.Goals as goal

pub returns-then-self-ne0 : goal.returns-then-self-ne0
unfolding book_of
returns-then-self-ne0 c = flag_is _ _ c.args.incarnation.0 c.if-self-ne0.true

pub returns-else-self-ne0 : goal.returns-else-self-ne0
unfolding book_of
returns-else-self-ne0 c = flag_0 _ _ c.args.incarnation.0 c.if-self-ne0.false
