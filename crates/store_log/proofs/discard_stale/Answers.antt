use Rattle.std.proofs.Common.{arith}
use Rattle.store_log.proofs.Recording.{settle_none, settle_kept, settle_cleared}
use Rattle.store_log.proofs.discard_stale.Goals as goal

pub returns-then-max-eq0 : goal.returns-then-max-eq0
returns-then-max-eq0 c C later b h = settle_none C c.args.max later c.args.next c.args.words.now c.args.words.now b c.if-max-eq0.true

pub returns-then-next-words : goal.returns-then-next-words
returns-then-next-words c C later b h =
    let slot = c.newest_slot-slot in
    settle_cleared C c.args.max c.args.next later slot.result c.args.words.now b (omega arith) slot.ensures.is slot.ensures.within c.requires c.if-next-words.true

pub returns-else-next-words : goal.returns-else-next-words
returns-else-next-words c C later b h =
    let slot = c.newest_slot-slot in
    settle_kept C c.args.max c.args.next later slot.result c.args.words.now b (omega arith) slot.ensures.is c.if-next-words.false h
