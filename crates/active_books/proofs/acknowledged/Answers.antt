use Rattle.active_books_area.proofs.Area.{acknowledged_set}
use Rattle.active_books.proofs.Calling.{acknowledges}
use Rattle.active_books.proofs.acknowledged.Goals as goal

pub returns : goal.returns
returns c = acknowledges c.args.words.now _ c.args.incarnation.0 c.in_ok-check_rules.ensures (acknowledged_set c.args.words.now c.args.incarnation.0 c.in_ok-check_rules.ensures)
