use Rattle.std.proofs.Common.{arith}
use Rattle.model_times.proofs.Cycle.{epoch}
use Rattle.model_times.proofs.Numbers.{since_epoch, in_millis}
use Rattle.times_stamp.specs.Answers.{time_of}
use Rattle.times_stamp.proofs.millis_of.Goals as goal

pub overflow_sub-days : goal.overflow_sub-days
overflow_sub-days c = omega (arith, since_epoch (time_of c.args.time) c.requires, epoch, c.days_before-days.ensures.is)

pub returns : goal.returns
returns c = omega (arith, in_millis (time_of c.args.time) c.requires, epoch, c.days_before-days.ensures.is)
