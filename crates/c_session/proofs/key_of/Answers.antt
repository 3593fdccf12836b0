use Rattle.c_session.proofs.Laws.{begin_short, sender_short, target_short, suffix_short, key_is}
use Rattle.c_session.proofs.key_of.Goals as goal

pub span-requires : goal.span-requires
span-requires c = begin_short _ _ c.key-key.result c.key-key.ensures

pub span-requires-2 : goal.span-requires-2
span-requires-2 c = sender_short _ _ c.key-key.result c.key-key.ensures

pub span-requires-3 : goal.span-requires-3
span-requires-3 c = target_short _ _ c.key-key.result c.key-key.ensures

pub span-requires-4 : goal.span-requires-4
span-requires-4 c = suffix_short _ _ c.key-key.result c.key-key.ensures

pub returns : goal.returns
returns c =
    let a = c.args in
    let v = a.view.now in
    let p = c.spot-start.result in
    let l = c.place.ensures in
    key_is _ _ c.key-key.result c.key-key.ensures v.shape a.place p.words_start p.words_end p.bytes_start p.bytes_end v.words.now v.bytes.now c.spot-start.ensures v.rules c.requires l.bytes l.is c.span.ensures c.span-2.ensures c.span-3.ensures c.span-4.ensures
