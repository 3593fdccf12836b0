use Rattle.store_sessions.proofs.Parts.{from_at}
use Rattle.store_sessions.proofs.messages_from.Goals as goal

pub returns : goal.returns
returns c =
    let v = c.args.view.now in
    let p = c.place.ensures in
    let r = c.position_from in
    from_at v.shape c.args.place v.words.now v.bytes.now _ _ _ c.args.low r.result.left r.result.dist p.max p.words p.bytes (r.ensures v.shape.bytes p.long)
