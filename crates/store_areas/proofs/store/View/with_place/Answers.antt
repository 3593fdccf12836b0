use Rattle.std.proofs.Common.{sym, ◌∙◌}
use Rattle.store_areas.proofs.Ruling.{in_use_of}
use Rattle.store_areas.proofs.store.View.with_place.Goals as goal

pub invariant_of-result-clause-rules : goal.invariant_of-result-clause-rules
invariant_of-result-clause-rules c = (in_use_of _ _ _ _ (sym c.in_use.ensures ∙ c.if-in_use.true)).rules
