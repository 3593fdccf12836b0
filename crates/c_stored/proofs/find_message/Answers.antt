use Rattle.c_stored.proofs.Laws.{none_there}
use Rattle.c_stored.proofs.find_message.Goals as goal

pub returns-then-from-eq0 : goal.returns-then-from-eq0
returns-then-from-eq0 c = none_there c.args.number c.messages_from-from.ensures c.max.ensures c.if-from-eq0.true
