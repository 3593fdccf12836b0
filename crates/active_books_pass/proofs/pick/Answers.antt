use Rattle.active_books_pass.proofs.Picking.{picked_behind, picked_listed}
use Rattle.std.proofs.Common.{List, ℕ, find, ap, sym, ◌∙◌}
use Rattle.active_books_area.specs.Words.{book_of}
use Rattle.active_books_next.specs.Firsts.{is_closed, is_wanting}
use Rattle.active_books_pass.proofs.pick.Goals as goal

pub returns-in-Some-clause-picks : goal.returns-in-Some-clause-picks
returns-in-Some-clause-picks c = picked_behind c.args.books.now.words.now c.set_catching.new.self.words.now c.args.pass.now.listing.now c.args.pass.now.incarnation.0 c.in-Some.session (c.in-Some.ensures ∙ ap (λ (w : List ℕ). find (is_closed w) (book_of w).behind) c.view-view.ensures) c.set_catching.ensures.makes

pub returns-clause-picks : goal.returns-clause-picks
returns-clause-picks c = picked_listed c.args.books.now.words.now c.set_catching-2.new.self.words.now c.args.pass.now.listing.now c.args.pass.now.incarnation.0 c.first_listed-next.result (sym c.in_default.is ∙ c.first_behind.ensures ∙ ap (λ (w : List ℕ). find (is_closed w) (book_of w).behind) c.view-view.ensures) (c.first_listed-next.ensures ∙ ap (λ (w : List ℕ). find (is_wanting w c.args.pass.now.incarnation.0) c.args.pass.now.listing.now) c.view-view.ensures) c.set_catching-2.ensures.makes
