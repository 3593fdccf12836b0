use Rattle.std.proofs.Common.{refl}
use Rattle.active_books_area.proofs.Area.{pushed}
use Rattle.active_books_session.proofs.push.Goals as goal

pub returns-clause-makes : goal.returns-clause-makes
returns-clause-makes c = pushed c.args.books.now.words.now c.args.session _ c.args.books.now.rules refl c.requires
