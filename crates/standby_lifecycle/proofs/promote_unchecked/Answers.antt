use borrow.Author.Rules.{rules}
use Rattle.std.proofs.Common.{sym, ◌∙◌}
use Rattle.model_standby.specs.State.{promote_unchecked}
use Rattle.standby_state.specs.Lent.{holds_of}
use Rattle.standby_lifecycle.proofs.Laws.{at_end, unsound, keeps, promoted_unchecked}
use Rattle.standby_lifecycle.proofs.promote_unchecked.Goals as goal

pub returns-then-not-are_kept-clause-is : goal.returns-then-not-are_kept-clause-is
returns-then-not-are_kept-clause-is c =
    let a = c.args in
    let s = a.standing in
    unsound s.settings s.counters s.lookup a.areas.now.row.now a.areas.now.words.now a.areas.now.bytes.now (holds_of a.areas.now) promote_unchecked (sym c.are_kept.ensures ∙ c.if-not-are_kept.true) c.refuse.ensures

pub invariant_of-store-clause-rules : goal.invariant_of-store-clause-rules
invariant_of-store-clause-rules c =
    let a = c.args in
    let s = a.standing in
    keeps s.settings s.counters s.lookup a.areas.now.row.now a.areas.now.words.now a.areas.now.bytes.now (holds_of a.areas.now) (sym c.are_kept.ensures ∙ c.if-not-are_kept.false)

pub returns-clause-is : goal.returns-clause-is
returns-clause-is c =
    let a = c.args in
    let s = a.standing in
    at_end (promoted_unchecked s.settings s.counters s.lookup a.areas.now.row.now a.areas.now.words.now a.areas.now.bytes.now (holds_of a.areas.now) (sym c.are_kept.ensures ∙ c.if-not-are_kept.false) c.promotion.ensures.is) (search rules) (search rules)
