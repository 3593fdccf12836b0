use Rattle.std.proofs.Common.{◌∙◌}
use Rattle.model_active.specs.CatchUp.{less}
use Rattle.active_books_area.proofs.Area.{opens_set, less_is}
use Rattle.active_books_session.proofs.count_closed.Goals as goal

pub returns-clause-makes : goal.returns-clause-makes
returns-clause-makes c = opens_set c.args.books.now.words.now c.args.session c.args.i _ less c.requires (c.saturating_sub-opens.ensures ∙ less_is _)
