use Rattle.store_sessions.proofs.Parts.{durable_is}
use Rattle.store_sessions.proofs.durable.Goals as goal

pub returns : goal.returns
returns c =
    let v = c.args.view.now in
    durable_is v.shape c.args.place v.words.now v.bytes.now _ _ c.place.ensures.is c.durable.result c.durable.ensures
