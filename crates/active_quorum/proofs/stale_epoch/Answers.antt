use Rattle.std.proofs.Common.{arith}
use Rattle.active_quorum.proofs.Calls.{stale_unknown, stale_deposes}
use Rattle.active_quorum.proofs.stale_epoch.Goals as goal

pub returns-then-words-member : goal.returns-then-words-member
returns-then-words-member c = stale_unknown c.args.words.now c.args.member c.in_ok-check_rules.ensures (omega arith)

pub returns : goal.returns
returns c = stale_deposes c.args.words.now c.args.member c.in_ok-check_rules.ensures (omega arith)
