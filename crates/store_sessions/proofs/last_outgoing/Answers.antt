use Rattle.store_sessions.proofs.Parts.{last_is}
use Rattle.store_sessions.proofs.last_outgoing.Goals as goal

pub returns : goal.returns
returns c =
    let v = c.args.view.now in
    let p = c.place.ensures in
    last_is v.shape c.args.place v.words.now v.bytes.now _ _ p.is c.args.n c.last_outgoing.result _ p.max (c.last_outgoing.ensures v.shape.bytes p.long)
