use Rattle.store_sessions.proofs.Parts.{suits_is}
use Rattle.store_sessions.proofs.suits.Goals as goal

pub returns : goal.returns
returns c =
    let v = c.args.view.now in
    suits_is v.shape c.args.place v.words.now v.bytes.now _ _ c.place.ensures.is c.args.protocol.version c.suits.result c.suits.ensures
