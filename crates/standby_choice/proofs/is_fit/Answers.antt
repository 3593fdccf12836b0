use Rattle.standby_choice.proofs.Laws.{candidate_rules, no_candidate, candidate}
use Rattle.standby_choice.proofs.is_fit.Goals as goal

pub returns-then-not-is_candidate : goal.returns-then-not-is_candidate
returns-then-not-is_candidate c = no_candidate _ c.is_candidate.ensures c.if-not-is_candidate.true

pub invariant_of-mine-clause-rules : goal.invariant_of-mine-clause-rules
invariant_of-mine-clause-rules c =
    let x = c.args.c.now in
    candidate_rules x.copy x.words.now x.bytes.now c.args.top.0 c.requires.rules_if c.is_candidate.ensures c.if-not-is_candidate.false

pub returns : goal.returns
returns c = candidate c.is_candidate.ensures c.if-not-is_candidate.false c.is_ahead_of_all.ensures
