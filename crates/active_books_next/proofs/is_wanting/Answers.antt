use Rattle.std.proofs.Common.{rules}
use Rattle.active_books_next.proofs.Nexts.{wanting_new, open_not, wanting_is}
use Rattle.active_books_next.proofs.is_wanting.Goals as goal

pub returns-then-books-i-eq0 : goal.returns-then-books-i-eq0
returns-then-books-i-eq0 c = wanting_is c.args.books.now.words.now c.args.session c.in-Some.i c.args.incarnation.0 c.in-Some.ensures c.if-books-i-eq0.true c.is_compared.ensures

pub returns-else-books-i-eq0 : goal.returns-else-books-i-eq0
returns-else-books-i-eq0 c = open_not c.args.books.now.words.now c.args.session c.in-Some.i c.args.incarnation.0 c.in-Some.ensures c.if-books-i-eq0.false (search rules)

pub returns-in-None : goal.returns-in-None
returns-in-None c = wanting_new c.args.books.now.words.now c.args.session c.args.incarnation.0 c.in-None.ensures
