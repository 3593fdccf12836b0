use Rattle.active_books_next.proofs.Nexts.{never_compared}
use Rattle.active_books_next.proofs.was_compared.Goals as goal

pub returns-in-None : goal.returns-in-None
returns-in-None c = never_compared c.args.books.now.words.now c.args.session c.args.incarnation.0 c.in-None.ensures
