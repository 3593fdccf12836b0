use Rattle.active_books_area.proofs.Area.{flag_0, flag_is}
use Rattle.active_books_area.proofs.BooksView.is_compared_at.Goals as goal

pub returns-then-self-k-ne0 : goal.returns-then-self-k-ne0
returns-then-self-k-ne0 c = flag_is _ _ c.args.incarnation.0 c.if-self-k-ne0.true

pub returns-else-self-k-ne0 : goal.returns-else-self-k-ne0
returns-else-self-k-ne0 c = flag_0 _ _ c.args.incarnation.0 c.if-self-k-ne0.false
