use Rattle.std.proofs.Common.{refl}
use Rattle.active_books_area.proofs.Area.{appended}
use Rattle.active_books_session.proofs.append.Goals as goal

pub returns-clause-appends : goal.returns-clause-appends
returns-clause-appends c = appended c.args.books.now.words.now c.args.session _ c.args.books.now.rules refl c.requires
