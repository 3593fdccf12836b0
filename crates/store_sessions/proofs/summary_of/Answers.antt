use Rattle.store_sessions.proofs.Parts.{summed_up, texts_in}
use Rattle.store_sessions.proofs.summary_of.Goals as goal

pub returns-clause-is : goal.returns-clause-is
returns-clause-is c =
    let a = c.args in
    let v = a.view.now in
    let p = c.place.ensures in
    summed_up v.shape a.place _ _ _ _ v.words.now v.bytes.now c.spot.ensures v.rules c.requires a.n c.summary_in.result _ _ _ p.max p.words p.bytes (c.summary_in.ensures v.shape.bytes p.long)

pub returns-clause-inside : goal.returns-clause-inside
returns-clause-inside c =
    let a = c.args in
    let v = a.view.now in
    let p = c.place.ensures in
    texts_in v.shape a.place _ _ _ _ v.words.now v.bytes.now c.spot.ensures v.rules c.requires a.n c.summary_in.result _ _ _ p.max p.words p.bytes (c.summary_in.ensures v.shape.bytes p.long)
