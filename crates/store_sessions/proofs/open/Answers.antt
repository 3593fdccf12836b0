use Rattle.store_place.specs.Keys.{lent_key}
use Rattle.store_sessions.proofs.Opening.{in_use, opened}
use Rattle.store_sessions.proofs.open.Goals as goal

pub spot-spot-requires : goal.spot-spot-requires
spot-spot-requires c = in_use c.args.store.now.shape c.args.store.now.words.now c.args.store.now.bytes.now c.args.store.now.rules c.requires.words_bound

pub returns-clause-is : goal.returns-clause-is
returns-clause-is c =
    let a = c.args in
    let r = c.new_session in
    opened a.store.now.shape a.store.now.words.now a.store.now.bytes.now c.args.store.now.rules c.requires.words_bound (lent_key a.key.now) _ _ _ _ r.new.words r.new.bytes c.spot-spot.ensures r.auto.words r.auto.bytes (r.ensures a.store.now.shape.bytes)
