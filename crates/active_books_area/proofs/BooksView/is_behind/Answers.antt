use Rattle.std.proofs.Common.{ap, ◌∙◌}
use Rattle.model_active.specs.CatchUp.{member}
use Rattle.active_books_area.proofs.Area.{contained}
use Rattle.active_books_area.proofs.BooksView.is_behind.Goals as goal

pub returns : goal.returns
returns c = c.contains.ensures.value ∙ contained c.args.session c.behind.result.now ∙ ap (member c.args.session) c.behind.ensures
