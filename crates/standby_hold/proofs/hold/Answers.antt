use Rattle.standby_segments.specs.Segments.{hold_areas}
use Rattle.standby_hold.proofs.Laws.{front, no_reset, too_much, no_room, held}
use Rattle.standby_hold.proofs.hold.Goals as goal

pub returns-then-lacks_reset : goal.returns-then-lacks_reset
returns-then-lacks_reset c =
    let x = c.args.all.now in
    let area = hold_areas c.args.area.now c.args.ends.now in
    no_reset x.changes.protocol.version x.changes.run.now area c.args.held.used c.args.held.sum (front x.changes.protocol.version c.args.held.used area c.held_length-used.ensures.is) c.counted.ensures c.message_bytes.ensures c.saturating_add-sum.ensures c.lacks_reset.ensures x.takes_all c.if-lacks_reset.true

pub returns-then-sum-gt-MAX_WHOLE_SESSION_BYTES : goal.returns-then-sum-gt-MAX_WHOLE_SESSION_BYTES
returns-then-sum-gt-MAX_WHOLE_SESSION_BYTES c =
    let x = c.args.all.now in
    let area = hold_areas c.args.area.now c.args.ends.now in
    too_much x.changes.protocol.version x.changes.run.now area c.args.held.used c.args.held.sum (front x.changes.protocol.version c.args.held.used area c.held_length-used.ensures.is) c.counted.ensures c.message_bytes.ensures c.saturating_add-sum.ensures c.lacks_reset.ensures x.takes_all c.if-lacks_reset.false c.if-sum-gt-MAX_WHOLE_SESSION_BYTES.true

pub returns-then-area-end : goal.returns-then-area-end
returns-then-area-end c =
    let x = c.args.all.now in
    let area = hold_areas c.args.area.now c.args.ends.now in
    no_room x.changes.protocol.version x.changes.run.now area c.args.held.used c.args.held.sum (front x.changes.protocol.version c.args.held.used area c.held_length-used.ensures.is) c.counted.ensures c.message_bytes.ensures c.saturating_add-sum.ensures c.lacks_reset.ensures x.takes_all c.if-lacks_reset.false c.if-sum-gt-MAX_WHOLE_SESSION_BYTES.false c.if-area-end.true

pub returns : goal.returns
returns c =
    let x = c.args.all.now in
    let area = hold_areas c.args.area.now c.args.ends.now in
    held x.changes.protocol.version x.changes.run.now area c.args.held.used c.args.held.sum (front x.changes.protocol.version c.args.held.used area c.held_length-used.ensures.is) c.counted.ensures c.message_bytes.ensures c.saturating_add-sum.ensures c.lacks_reset.ensures x.takes_all c.if-lacks_reset.false c.if-sum-gt-MAX_WHOLE_SESSION_BYTES.false c.if-area-end.false c.copy.ensures.bytes
