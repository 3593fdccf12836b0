use Rattle.std.proofs.Common.{refl, rules, List, ℕ, ap, ◌∙◌}
use Rattle.std.proofs.lemmas.Result.{err_from_is_err_and}
use Rattle.model_active.specs.CatchUp as m
use Rattle.active_books_area.specs.Words.{book_of}
use Rattle.active_books.proofs.Calling.{ends_as}
use Rattle.active_books_pass.proofs.Picking.{no_room, tells}
use Rattle.active_books_pass.proofs.all_compared.Goals as goal

pub returns-in_err-meet_listed : goal.returns-in_err-meet_listed
returns-in_err-meet_listed c =
    let p = err_from_is_err_and c.from_residual-in_err-meet_listed.result c.from_residual-in_err-meet_listed.ensures.1 in
    rw (p.1, p.2) (ends_as (search rules) (no_room c.args.words.now c.meet_listed.new.books.words.now c.args.listing.now (m.all_compared c.args.listing.now c.args.incarnation.0) c.in_err-meet_listed.field-0.0 refl c.in_ok-check_rules.ensures c.in_err-meet_listed.ensures.lists.0 c.in_err-meet_listed.ensures.lists.1))

pub returns : goal.returns
returns c = ends_as (search rules) (tells c.args.words.now c.meet_listed.new.books.words.now c.args.listing.now c.args.incarnation.0 c.in_ok-check_rules.ensures c.in_ok-meet_listed.ensures.lists (c.is_told.ensures ∙ ap (λ (w : List ℕ). m.told_checked (book_of w) c.args.listing.now c.args.incarnation.0) c.view.ensures))
