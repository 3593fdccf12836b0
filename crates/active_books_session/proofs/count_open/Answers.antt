use Rattle.std.proofs.Common.{suc, min, arith}
use Rattle.active_books_area.proofs.Area.{opens_set}
use Rattle.active_books_session.proofs.count_open.Goals as goal

pub returns-clause-makes : goal.returns-clause-makes
returns-clause-makes c = opens_set c.args.books.now.words.now c.args.session c.args.i _ (λ o. min (suc o) 18446744073709551615) c.requires (omega (arith, c.saturating_add-opens.ensures))
