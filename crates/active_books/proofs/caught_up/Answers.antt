use Rattle.std.proofs.Common.{refl, rules}
use Rattle.std.proofs.lemmas.Result.{err_from_is_err_and}
use Rattle.model_active.specs.CatchUp as m
use Rattle.active_books.proofs.Calling.{refuses_one, catches_up, ends_as}
use Rattle.active_books.proofs.caught_up.Goals as goal

pub returns-in_err-i : goal.returns-in_err-i
returns-in_err-i c =
    let p = err_from_is_err_and c.from_residual-in_err-i.result c.from_residual-in_err-i.ensures.1 in
    rw (p.1, p.2) (ends_as (search rules) (refuses_one c.args.words.now c.meet_if_room.new.books.words.now c.args.session (m.caught_up c.args.session c.args.incarnation.0) c.in_err-i.field-0.0 refl c.in_ok-check_rules.ensures c.in_err-i.ensures.meets))

pub returns : goal.returns
returns c = ends_as (search rules) (catches_up c.args.words.now c.meet_if_room.new.books.words.now c.compare.new.books.words.now c.leave.new.books.words.now c.args.session c.in_ok-i.i c.args.incarnation.0 c.in_ok-check_rules.ensures c.in_ok-i.ensures.meets c.compare.ensures.makes c.leave.ensures.makes)
