use borrow.Author.Rules.{rules}
use Rattle.c_store.proofs.Laws.{used, unfit, made_through}
use Rattle.c_store.proofs.store_take_over.Goals as goal

pub returns-then-not-in_use : goal.returns-then-not-in_use
returns-then-not-in_use c = unfit c.in_use.ensures c.if-not-in_use.true c.number.ensures

pub invariant_of-store-clause-rules : goal.invariant_of-store-clause-rules
invariant_of-store-clause-rules c = (used c.in_use.ensures c.if-not-in_use.false).rules

pub take_over-requires : goal.take_over-requires
take_over-requires c = (used c.in_use.ensures c.if-not-in_use.false).at

pub returns : goal.returns
returns c = made_through c.in_use.ensures c.if-not-in_use.false c.take_over.ensures.is (search rules) (search rules)
