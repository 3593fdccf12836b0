use Rattle.standby_batch_due.proofs.Areas.{within}
use Rattle.standby_batch_due.proofs.own_part.Goals as goal

pub part_start-start-requires : goal.part_start-start-requires
part_start-start-requires c = rw c.room_of-room.ensures (within c.args.lookup c.args.len)

pub returns-clause-within : goal.returns-clause-within
returns-clause-within c = rw (c.part_start-start.ensures, c.room_of-room.ensures) (within c.args.lookup c.args.len)
