use Rattle.std.proofs.Common.{rules, refl, sym, ◌∙◌, get_or, arith}
use Rattle.std.proofs.lemmas.Iterator.{YieldsList-from_range}
use Rattle.std.proofs.lemmas.Iterator.Search.{find_from_yields_List}
use Rattle.std.proofs.lemmas.Iterator.Adapters.{option_map_id}
use Rattle.store_place.specs.Keys.{lent_key}
use Rattle.store_areas.specs.Areas.{place_at}
use Rattle.store_sessions.proofs.Seeking.{is_here, found}
use Rattle.store_sessions.proofs.place_of.Goals as goal

pub returns : goal.returns
returns c =
    let v = c.args.view.now in
    let k = lent_key c.args.key.now in
    found k v.shape v.words.now v.bytes.now (sym (option_map_id c.find.result)
    ∙ find_from_yields_List (is_here k (place_at v.shape v.words.now v.bytes.now)) _ _ _ c.find.ensures.ran (YieldsList-from_range 0 (get_or v.words.now 0 0) _ refl (omega arith)) (λ x b q r. search rules))
