use Rattle.std.proofs.Common.{arith}
use Rattle.store_log.proofs.Slots.{stored_newest}
use Rattle.store_log.proofs.put_entry.Goals as goal

pub returns-clause-put : goal.returns-clause-put
returns-clause-put c =
    let a = c.args in
    stored_newest a.words.now c.head-slot.result a.«end» a.seq a.len (omega arith) a.max c.head-slot.ensures.is (omega arith)
