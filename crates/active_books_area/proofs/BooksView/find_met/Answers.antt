use Rattle.std.proofs.Common.{◌==◌, position, ap, ◌∙◌}
use Rattle.active_books_area.proofs.Area.{found_met}
use Rattle.active_books_area.proofs.BooksView.find_met.Goals as goal

pub returns : goal.returns
returns c = found_met c.args.self.now.words.now c.args.session _ c.args.self.now.rules (c.find_in.ensures ∙ ap (position (λ x. x == c.args.session)) c.met.ensures)
