use Rattle.std.proofs.Common.{arith, sym, ◌∙◌}
use Rattle.active_quorum.proofs.Calls.{make_made}
use Rattle.active_quorum.proofs.make.Goals as goal

pub returns : goal.returns
returns c = make_made c.args.words.now c.args.members c.args.needed (omega arith) (sym c.is_allowed.ensures ∙ c.if-not-is_allowed.false)
