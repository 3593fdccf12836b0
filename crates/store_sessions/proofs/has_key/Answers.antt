use Rattle.store_place.specs.Keys.{lent_key}
use Rattle.store_sessions.proofs.Parts.{key_same}
use Rattle.store_sessions.proofs.has_key.Goals as goal

pub returns : goal.returns
returns c =
    let v = c.args.view.now in
    key_same v.shape c.args.place v.words.now v.bytes.now _ _ c.place-stored.ensures.is c.has_key.result (lent_key c.args.key.now) c.has_key.ensures
