use Rattle.std.proofs.Common.{sym}
use Rattle.standby_control.proofs.Laws.{nineteen}
use Rattle.standby_control.proofs.answer_by_counters.Goals as goal

pub returns-in-Hello : goal.returns-in-Hello
returns-in-Hello c = rw c.in-Hello.is (c.on_hello.ensures _ (sym c.no_kinds-none.ensures))

pub returns-in_default : goal.returns-in_default
returns-in_default c = nineteen c.args.counters c.args.settings c.args.frame.now c.args.decoded c.in_default.not-Hello c.in_default.not-Checked c.requires c.refuse.ensures
