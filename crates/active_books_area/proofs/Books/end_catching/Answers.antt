use Rattle.std.proofs.Common.{refl, rules}
use Rattle.std.specs.Prelude.{None}
use Rattle.active_books_area.proofs.Area.{catching_put}
use Rattle.active_books_area.proofs.Books.end_catching.Goals as goal

pub returns-clause-makes : goal.returns-clause-makes
returns-clause-makes c = catching_put c.args.self.now.words.now 0 c.args.session None c.args.self.now.rules refl
