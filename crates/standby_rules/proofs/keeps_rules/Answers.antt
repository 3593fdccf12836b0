use Rattle.std.proofs.Common.{sym, ◌∙◌}
use Rattle.store_areas.proofs.Ruling.{rules_of}
use Rattle.standby_rules.proofs.keeps_rules.Goals as goal

pub invariant_of-view-clause-rules : goal.invariant_of-view-clause-rules
invariant_of-view-clause-rules c = rules_of c.args.shape c.args.words.now c.args.bytes.now (sym c.allowed.ensures ∙ c.if-not-allowed.false)
