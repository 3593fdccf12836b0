use Rattle.std.proofs.Common.{rules, arith, ◌∙◌}
use Rattle.active_books.proofs.Calling.{ends_as}
use Rattle.active_books_pass.proofs.Together.{too_many_behind, open_fall}
use Rattle.active_books_pass.proofs.behind_unless_compared_open.Goals as goal

pub returns-then-m-len-gt-MAX_SESSIONS : goal.returns-then-m-len-gt-MAX_SESSIONS
returns-then-m-len-gt-MAX_SESSIONS c = too_many_behind c.args.words.now c.fallen_open-fallen.result.items c.args.incarnation.0 c.in_ok-check_rules.ensures c.fallen_open-fallen.ensures.list (omega (arith, c.len.ensures.value))

pub returns : goal.returns
returns c = ends_as (search rules) (open_fall c.args.words.now c.push_all.new.books.words.now c.deref.result.now c.args.incarnation.0 c.in_ok-check_rules.ensures (c.deref.ensures.0 ∙ c.fallen_open-fallen.ensures.list) c.push_all.ensures.makes)
