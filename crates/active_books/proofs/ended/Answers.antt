use Rattle.std.proofs.Common.{refl, rules, List, ℕ, ap, ◌∙◌}
use Rattle.std.proofs.lemmas.Result.{err_from_is_err_and}
use Rattle.model_active.specs.CatchUp as m
use Rattle.active_books_area.specs.Words.{book_of}
use Rattle.active_books.proofs.Calling.{refuses_one, ends, ends_as}
use Rattle.active_books.proofs.ended.Goals as goal

pub returns-in_err-i : goal.returns-in_err-i
returns-in_err-i c =
    let p = err_from_is_err_and c.from_residual-in_err-i.result c.from_residual-in_err-i.ensures.1 in
    rw (p.1, p.2) (ends_as (search rules) (refuses_one c.args.words.now c.meet_if_room.new.books.words.now c.args.session (m.ended c.args.session c.args.incarnation.0) c.in_err-i.field-0.0 refl c.in_ok-check_rules.ensures c.in_err-i.ensures.meets))

pub returns : goal.returns
returns c = ends_as (search rules) (ends c.args.words.now c.meet_if_room.new.books.words.now c.end_catching.new.self.words.now c.args.session c.in_ok-i.i c.args.incarnation.0 c.in_ok-check_rules.ensures c.in_ok-i.ensures.meets (c.is_compared-compared.ensures ∙ ap (λ (w : List ℕ). m.is (m.compared_of c.args.session (book_of w).met) c.args.incarnation.0) c.view.ensures) c.end_catching.ensures.makes)
