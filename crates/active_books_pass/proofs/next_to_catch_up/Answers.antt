use Rattle.std.proofs.Common.{refl, rules}
use Rattle.std.proofs.lemmas.Result.{err_from_is_err_and}
use Rattle.model_active.specs.CatchUp as m
use Rattle.active_books.proofs.Calling.{ends_as}
use Rattle.active_books_pass.proofs.Picking.{no_room, nexts}
use Rattle.active_books_pass.proofs.next_to_catch_up.Goals as goal

pub returns-in_err-meet_listed : goal.returns-in_err-meet_listed
returns-in_err-meet_listed c =
    let p = err_from_is_err_and c.from_residual-in_err-meet_listed.result c.from_residual-in_err-meet_listed.ensures.1 in
    rw (p.1, p.2) (ends_as (search rules) (no_room c.args.words.now c.meet_listed.new.books.words.now c.args.listing.now (m.next_to_catch_up c.args.listing.now c.args.incarnation.0) c.in_err-meet_listed.field-0.0 refl c.in_ok-check_rules.ensures c.in_err-meet_listed.ensures.lists.0 c.in_err-meet_listed.ensures.lists.1))

pub returns : goal.returns
returns c = ends_as (search rules) (nexts c.args.words.now c.meet_listed.new.books.words.now c.pick.new.books.words.now c.args.listing.now c.args.incarnation.0 _ c.in_ok-check_rules.ensures c.in_ok-meet_listed.ensures.lists c.pick.ensures.picks)
