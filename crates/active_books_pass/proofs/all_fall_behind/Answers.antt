use Rattle.std.proofs.Common.{ap, length, arith}
use Rattle.std.proofs.Common.{rules}
use Rattle.std.proofs.lemmas.Result.{err_from_is_err_and}
use Rattle.model_active.specs.CatchUp as m
use Rattle.active_books_area.proofs.Area.{met_size}
use Rattle.active_books.proofs.Calling.{refuses_full, ends_as}
use Rattle.active_books_pass.proofs.Together.{all_too_many, all_fall, fallen_by, count_kept}
use Rattle.active_books_pass.proofs.all_fall_behind.Goals as goal

pub returns-in_err-gather : goal.returns-in_err-gather
returns-in_err-gather c =
    let p = err_from_is_err_and c.from_residual-in_err-gather.result c.from_residual-in_err-gather.ensures.1 in
    rw (p.1, p.2) (refuses_full c.args.words.now (m.all_fall_behind c.args.listing.now) c.in_err-gather.field-0.0 c.in_ok-check_rules.ensures c.in_err-gather.ensures.refusal c.in_err-gather.ensures.full)

pub fall_listed-requires : goal.fall_listed-requires
fall_listed-requires c = omega (arith, ap length c.new-fallen.ensures, ap length c.met.ensures, met_size c.args.words.now, c.in_ok-check_rules.ensures.few)

pub fall_listed-requires-2 : goal.fall_listed-requires-2
fall_listed-requires-2 c = omega (arith, c.fall_listed.ensures.few, ap length c.new-fallen.ensures, ap length c.met.ensures, met_size c.args.words.now, ap length c.deref.ensures.0, c.in_ok-gather.ensures.fit)

pub returns-then-m-len-gt-MAX_SESSIONS : goal.returns-then-m-len-gt-MAX_SESSIONS
returns-then-m-len-gt-MAX_SESSIONS c = all_too_many c.args.words.now c.args.listing.now c.gather.new.fresh.items c.fall_listed-2.new.fallen.items c.in_ok-check_rules.ensures c.in_ok-gather.ensures (fallen_by c.args.words.now c.args.listing.now c.new-fallen.result.items c.met.result.now c.deref.result.now c.fall_listed.new.fallen.items c.fall_listed-2.new.fallen.items c.gather.new.fresh.items c.new-fallen.ensures c.met.ensures c.deref.ensures.0 c.fall_listed.ensures.fall c.fall_listed-2.ensures.fall) (omega (arith, c.len.ensures.value))

pub push_all-requires : goal.push_all-requires
push_all-requires c = omega (arith, count_kept c.args.words.now c.append_all.new.books.words.now _ c.append_all.ensures.makes, ap length c.deref-3.ensures.0, c.len.ensures.value)

pub returns : goal.returns
returns c =
    ends_as (search rules) (all_fall c.args.words.now c.append_all.new.books.words.now c.push_all.new.books.words.now c.args.listing.now c.gather.new.fresh.items c.fall_listed-2.new.fallen.items c.deref-2.result.now c.deref-3.result.now c.in_ok-check_rules.ensures c.in_ok-gather.ensures (fallen_by c.args.words.now c.args.listing.now c.new-fallen.result.items c.met.result.now c.deref.result.now c.fall_listed.new.fallen.items c.fall_listed-2.new.fallen.items c.gather.new.fresh.items c.new-fallen.ensures c.met.ensures c.deref.ensures.0 c.fall_listed.ensures.fall c.fall_listed-2.ensures.fall) c.deref-2.ensures.0 c.deref-3.ensures.0 c.append_all.ensures.makes c.push_all.ensures.makes)
