use Rattle.c_store.proofs.Laws.{used, unfit, marked_there}
use Rattle.c_store.proofs.store_mark_durable.Goals as goal

pub returns-then-not-in_use : goal.returns-then-not-in_use
returns-then-not-in_use c = unfit c.in_use.ensures c.if-not-in_use.true c.number.ensures

pub mark_durable-requires : goal.mark_durable-requires
mark_durable-requires c =
    let u = used c.in_use.ensures c.if-not-in_use.false in
    record { messages_bound = u.rules.room.messages_limit; shape_in_bounds = u.rules.room.words_long; words_bound = u.rules.used; place_bound = u.at }

pub returns : goal.returns
returns c = marked_there c.in_use.ensures c.if-not-in_use.false c.mark_durable.ensures
