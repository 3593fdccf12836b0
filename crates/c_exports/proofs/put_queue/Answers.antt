use Rattle.std.proofs.Common.{arith}
use Rattle.c_exports.proofs.Queueing.{filled}
use Rattle.c_exports.proofs.put_queue.Goals as goal

pub returns : goal.returns
returns c = filled c.args.log.drained_through c.args.log.count c.args.queue.now (omega arith) (omega arith) c.copy_from_slice.ensures.after
