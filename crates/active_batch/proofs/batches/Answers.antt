use Rattle.std.proofs.Common.{arith}
use Rattle.store_place.proofs.Header.{next_pos}
use Rattle.active_batch.proofs.Sending.{counted}
use Rattle.active_batch.proofs.batches.Goals as goal

pub batches-requires-clause-le_end : goal.batches-requires-clause-le_end
batches-requires-clause-le_end c = omega (arith, c.log.ensures.next, next_pos c.args.place.now.words.now)

pub returns-clause-is : goal.returns-clause-is
returns-clause-is c C long =
    let log = c.log.ensures in
    counted C c.args.place.now c.log.result long log.words log.bytes log.max log.next _ _ c.batches.ensures.is
