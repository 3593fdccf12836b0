use borrow.Author.Rules.{rules}
use Rattle.standby_lifecycle.proofs.Laws.{promoted_is}
use Rattle.standby_lifecycle.proofs.promotion.Goals as goal

pub returns-clause-is : goal.returns-clause-is
returns-clause-is c =
    let a = c.args in
    promoted_is a.store.now.shape a.lag a.counters a.store.now.words.now a.store.now.bytes.now a.store.now.rules (search rules) c.take_over_all.ensures.is c.promoted_from.ensures c.done.ensures c.cleared.ensures
