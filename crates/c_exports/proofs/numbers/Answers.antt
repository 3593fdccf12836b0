use Rattle.std.proofs.Common.{arith}
use Rattle.c_exports.proofs.Queueing.{numbers_read}
use Rattle.c_exports.proofs.numbers.Goals as goal

pub returns : goal.returns
returns c = numbers_read c.args.queue.now (omega arith) c.copy_from_slice.ensures.after
