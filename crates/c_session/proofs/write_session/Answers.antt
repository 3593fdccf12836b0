use Rattle.store_areas.specs.Areas.{place_at}
use Rattle.c_session.proofs.Laws.{no_room, told}
use Rattle.c_session.proofs.write_session.Goals as goal

pub returns-then-out-size : goal.returns-then-out-size
returns-then-out-size c =
    let a = c.args in
    let v = a.view.now in
    no_room (place_at v.shape v.words.now v.bytes.now a.place) a.n v.bytes.now c.key_of-k.result c.summary_of-m.result c.key_of-k.ensures c.summary_of-m.ensures.is c.size.ensures c.if-out-size.true

pub returns : goal.returns
returns c =
    let a = c.args in
    let v = a.view.now in
    told (place_at v.shape v.words.now v.bytes.now a.place) a.n v.bytes.now c.key_of-k.result c.summary_of-m.result c.key_of-k.ensures c.summary_of-m.ensures.is c.size.ensures c.durable-durable.ensures c.if-out-size.false c.put.ensures
