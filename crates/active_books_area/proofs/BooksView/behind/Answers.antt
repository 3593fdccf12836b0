use Rattle.std.proofs.Common.{arith}
use Rattle.active_books_area.proofs.Area.{behind_run}
use Rattle.active_books_area.proofs.BooksView.behind.Goals as goal

pub returns : goal.returns
returns c = behind_run c.args.self.now.words.now _ c.args.self.now.rules (omega arith)
