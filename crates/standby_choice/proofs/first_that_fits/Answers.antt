use Rattle.std.proofs.Common.{rules}
use Rattle.std.proofs.lemmas.Iterator.{YieldsList-from_slice}
use Rattle.std.proofs.lemmas.Iterator.Adapters.{serves_from_places}
use Rattle.std.proofs.lemmas.Iterator.Search.{position_from_yields_List}
use Rattle.standby_choice.proofs.Laws.{kept_at, fits, first_fits}
use Rattle.standby_choice.proofs.first_that_fits.Goals as goal

pub position-requires-clause-callable : goal.position-requires-clause-callable
position-requires-clause-callable c =
    let cs = c.args.copies.now in
    serves_from_places (YieldsList-from_slice cs cc) (λ x q r. search rules) (λ x k less is _ _ _ _ _ _ _ _ _. (kept_at x.now cs k is c.requires less, c.requires))

pub returns : goal.returns
returns c =
    let cs = c.args.copies.now in
    first_fits cs c.highest-top.ensures
    (position_from_yields_List (fits cs c.highest-top.result.0) _ _ _ c.position.ensures.ran (YieldsList-from_slice cs cc) (λ x b q r. search rules))
