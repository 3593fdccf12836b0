use Rattle.std.proofs.Common.{rules, ◌∙◌}
use Rattle.std.proofs.lemmas.Iterator.{YieldsList-from_slice}
use Rattle.std.proofs.lemmas.Iterator.Adapters.{serves_from_places}
use Rattle.std.proofs.lemmas.Iterator.Search.{all_from_yields_List}
use Rattle.store_areas.specs.Areas.{places_of}
use Rattle.standby_choice.proofs.Laws.{kept_at, ahead, ahead_of_all}
use Rattle.standby_choice.proofs.is_ahead_of_all.Goals as goal

pub all-requires-clause-callable : goal.all-requires-clause-callable
all-requires-clause-callable c =
    let cs = c.args.copies.now in
    serves_from_places (YieldsList-from_slice cs cc) (λ x q r. search rules) (λ x k less is _ _ _ _ _ _ _. kept_at x.now cs k is c.requires less)

pub returns : goal.returns
returns c =
    let m = c.args.mine.now in
    all_from_yields_List (ahead c.args.top.0 (places_of m.shape m.words.now m.bytes.now)) _ _ _ c.all.ensures.ran (YieldsList-from_slice c.args.copies.now cc) (λ x b q r. search rules)
    ∙ ahead_of_all c.args.top.0 (places_of m.shape m.words.now m.bytes.now) c.args.copies.now
