use Rattle.std.proofs.Common.{sym, ◌∙◌}
use Rattle.store_areas.proofs.Ruling.{rules_of}
use Rattle.store_areas.proofs.store.View.over.Goals as goal

pub invariant_of-result-clause-rules : goal.invariant_of-result-clause-rules
invariant_of-result-clause-rules c = rules_of _ _ _ (sym c.allowed.ensures ∙ c.if-allowed.true)
