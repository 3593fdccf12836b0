use Rattle.std.proofs.Common.{arith, sym}
use Rattle.active_quorum.proofs.Calls.{tells_none, tells_figure}
use Rattle.active_quorum.proofs.figure.Goals as goal

pub returns-in_default : goal.returns-in_default
returns-in_default c = tells_none c.args.words.now c.args.handle 256 (sym c.in_default.ensures.unbound) c.in_ok-check_rules.ensures (omega arith)

pub returns : goal.returns
returns c = tells_figure c.args.words.now c.args.handle c.in-Some.place.index c.count_at-c.result c.in-Some.ensures.found c.in_ok-check_rules.ensures c.in-Some.place.within c.count_at-c.ensures
