use Rattle.active_books.proofs.Calling.{says_it}
use Rattle.active_books.proofs.is_behind.Goals as goal

pub returns : goal.returns
returns c = says_it c.args.words.now c.args.session c.in_ok-check_rules.ensures c.is_behind.ensures
