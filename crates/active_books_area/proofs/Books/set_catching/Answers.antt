use Rattle.std.proofs.Common.{rules}
use Rattle.active_books_area.proofs.Area.{catching_set}
use Rattle.active_books_area.proofs.Books.set_catching.Goals as goal

pub returns-clause-makes : goal.returns-clause-makes
returns-clause-makes c = catching_set c.args.self.now.words.now _ _ c.args.session c.args.self.now.rules (search rules) (search rules)
