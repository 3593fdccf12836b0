use Rattle.active_books_area.proofs.Area.{compared_set}
use Rattle.active_books_session.proofs.compare.Goals as goal

pub returns-clause-makes : goal.returns-clause-makes
returns-clause-makes c = compared_set c.args.books.now.words.now c.args.session c.args.i c.args.incarnation.0 c.requires
