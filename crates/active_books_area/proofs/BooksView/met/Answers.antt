use Rattle.std.proofs.Common.{arith}
use Rattle.active_books_area.proofs.Area.{met_run}
use Rattle.active_books_area.proofs.BooksView.met.Goals as goal

pub returns : goal.returns
returns c = met_run c.args.self.now.words.now _ c.args.self.now.rules (omega arith)
