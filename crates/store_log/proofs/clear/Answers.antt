use Rattle.std.proofs.Common.{arith}
use Rattle.store_log.proofs.Recording.{cleared, clear_none}
use Rattle.store_log.proofs.clear.Goals as goal

pub returns-then-max-eq0 : goal.returns-then-max-eq0
returns-then-max-eq0 c C next b = clear_none C c.args.max next c.args.words.now b c.if-max-eq0.true

pub returns : goal.returns
returns c C next b =
    let slot = c.newest_slot-slot in
    cleared C c.args.max next slot.result c.args.words.now b (omega arith) slot.ensures.is slot.ensures.within c.requires
