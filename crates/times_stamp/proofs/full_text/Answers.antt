use Rattle.std.proofs.Common.{arith}
use Rattle.model_times.proofs.Calendar.{month_most}
use Rattle.times_stamp.proofs.full_text.Goals as goal

pub two-d-requires : goal.two-d-requires
two-d-requires c = omega (arith, month_most c.args.time.year c.args.time.month, c.requires.exists)
