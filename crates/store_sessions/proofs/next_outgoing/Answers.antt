use Rattle.store_sessions.proofs.Parts.{next_is}
use Rattle.store_sessions.proofs.next_outgoing.Goals as goal

pub returns : goal.returns
returns c =
    let v = c.args.view.now in
    next_is v.shape c.args.place v.words.now v.bytes.now _ _ c.place.ensures.is c.next_outgoing.result c.next_outgoing.ensures
