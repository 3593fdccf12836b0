use Rattle.std.proofs.Common.{◌≡◌, ◌||◌, Bool, false, is_some, ap, sym, ◌∙◌}
use Rattle.model_active.specs.CatchUp.{member, sessions}
use Rattle.active_books_area.specs.Words.{book_of}
use Rattle.active_books_area.proofs.Area.{found_is}
use Rattle.active_books_listing.proofs.is_known.Goals as goal

pub returns-else-is_listed : goal.returns-else-is_listed
returns-else-is_listed c =
    let s = c.args.session in
    let no : member s (sessions (book_of c.args.books.now.words.now).met) ≡ false = sym (c.is_listed.ensures ∙ ap (member s) c.met.ensures) ∙ c.if-is_listed.false in
    c.is_some.ensures ∙ ap is_some c.find_in.ensures ∙ found_is s c.args.fresh.now ∙ ap (λ (b : Bool). b || member s c.args.fresh.now) (sym no)
