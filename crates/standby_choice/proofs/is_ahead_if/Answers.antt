use Rattle.standby_choice.proofs.Laws.{candidate_rules}
use Rattle.standby_choice.proofs.is_ahead_if.Goals as goal

pub invariant_of-theirs-clause-rules : goal.invariant_of-theirs-clause-rules
invariant_of-theirs-clause-rules c = let x = c.args.c.now in candidate_rules x.copy x.words.now x.bytes.now c.args.top.0 c.requires c.is_candidate.ensures c.if-not-is_candidate.false
