use Rattle.std.proofs.Common.{rules, tests, ◌∙◌}
use Rattle.std.proofs.lemmas.Iterator.{YieldsList-from_slice}
use Rattle.std.proofs.lemmas.Iterator.Consumers.{YieldsList-from_filter, count_from_yields_List}
use Rattle.std.specs.Prelude.{leb}
use Rattle.active_quorum.proofs.Held.{held_so}
use Rattle.active_quorum.proofs.held_by.Goals as goal

pub returns : goal.returns
returns c = count_from_yields_List c.filter.result _ c.count.ensures.ran (YieldsList-from_filter _ (leb c.args.x) (YieldsList-from_slice c.args.acks.now cc) c.filter.ensures.closure (λ x r q k. search (rules, tests))) ∙ held_so c.args.acks.now c.args.x
