use Rattle.active_books_next.proofs.Nexts.{told_acknowledged, told_behind, told_is}
use Rattle.active_books_next.proofs.Pass.is_told.Goals as goal

pub returns-then-is_acknowledged : goal.returns-then-is_acknowledged
returns-then-is_acknowledged c = told_acknowledged c.args.books.now.words.now c.args.self.now.listing.now c.args.self.now.incarnation.0 c.is_acknowledged.ensures c.if-is_acknowledged.true

pub returns-then-none_behind : goal.returns-then-none_behind
returns-then-none_behind c = told_is c.args.books.now.words.now c.args.self.now.listing.now c.args.self.now.incarnation.0 c.is_acknowledged.ensures c.if-is_acknowledged.false c.if-none_behind.true c.is_compared.ensures

pub returns-else-none_behind : goal.returns-else-none_behind
returns-else-none_behind c = told_behind c.args.books.now.words.now c.args.self.now.listing.now c.args.self.now.incarnation.0 c.is_acknowledged.ensures c.if-is_acknowledged.false c.if-none_behind.false
