use Rattle.std.proofs.Common.{arith}
use Rattle.c_exports.proofs.Queueing.{pushes}
use Rattle.c_exports.proofs.wz_queue.Goals as goal

pub returns-in-Ok : goal.returns-in-Ok
returns-in-Ok c = pushes c.args.max_lag c.args.last c.args.queue.now (omega arith) c.numbers.result c.numbers.ensures c.in-Ok.ensures c.put_queue.ensures c.done.ensures
