use Rattle.std.proofs.Common.{arith}
use Rattle.screen_text.proofs.Laws.{told, no_room}
use Rattle.screen_text.proofs.tell.Goals as goal

pub returns-then-out-text : goal.returns-then-out-text
returns-then-out-text c = no_room (omega (arith, c.if-out-text.true))

pub returns : goal.returns
returns c = told (omega (arith, c.if-out-text.false)) c.copy.ensures
