use Rattle.std.proofs.Common.{rules, refl, get_or, arith}
use Rattle.std.proofs.lemmas.Iterator.{YieldsList-from_range}
use Rattle.std.proofs.lemmas.Iterator.Search.{all_from_yields_List}
use Rattle.store_areas.specs.Areas.{place_at, places_of}
use Rattle.standby_ahead.proofs.Numbers.{reached_at, all_reached}
use Rattle.standby_ahead.proofs.is_ahead.Goals as goal

pub returns : goal.returns
returns c =
    let m = c.args.mine.now in
    let v = c.args.theirs.now in
    all_reached (places_of m.shape m.words.now m.bytes.now) v.shape v.words.now v.bytes.now
    (all_from_yields_List (reached_at (places_of m.shape m.words.now m.bytes.now) (place_at v.shape v.words.now v.bytes.now)) _ _ _ c.all.ensures.ran (YieldsList-from_range 0 (get_or v.words.now 0 0) _ refl (omega arith)) (λ x b q r. search rules))
