use Rattle.std.proofs.Common.{rules, ◌≡◌, refl, get_or, arith}
use Rattle.std.specs.List.{list_any, range_with_len}
use Rattle.std.proofs.lemmas.Iterator.{YieldsList-from_range}
use Rattle.std.proofs.lemmas.Iterator.Search.{any_from_yields_List}
use Rattle.store_place.specs.Keys.{lent_key}
use Rattle.store_areas.specs.Areas.{place_at}
use Rattle.standby_ahead.proofs.Numbers.{has_at, there, not_there}
use Rattle.standby_ahead.proofs.search.Goals.{After-any}
use Rattle.standby_ahead.proofs.search.Goals as goal

any_is : (c : After-any) → c.any.result ≡ list_any (has_at (lent_key c.args.key.now) c.args.n (place_at c.args.mine.now.view.shape c.args.mine.now.view.words.now c.args.mine.now.view.bytes.now)) (range_with_len 0 (get_or c.args.mine.now.view.words.now 0 0))
any_is c =
    let v = c.args.mine.now.view in
    any_from_yields_List (has_at (lent_key c.args.key.now) c.args.n (place_at v.shape v.words.now v.bytes.now)) _ _ _ c.any.ensures.ran (YieldsList-from_range 0 (get_or v.words.now 0 0) _ refl (omega arith)) (λ x b q r. search rules)

pub returns-then-any : goal.returns-then-any
returns-then-any c = let v = c.args.mine.now.view in there v.shape v.words.now v.bytes.now (lent_key c.args.key.now) c.args.n (any_is (goal.at.returns-then-any c).After-any) c.if-any.true

pub returns-else-any : goal.returns-else-any
returns-else-any c = let v = c.args.mine.now.view in not_there v.shape v.words.now v.bytes.now (lent_key c.args.key.now) c.args.n (any_is (goal.at.returns-else-any c).After-any) c.if-any.false
