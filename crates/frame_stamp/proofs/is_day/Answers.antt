use Rattle.frame_stamp.proofs.Days.{says_early, says_day}
use Rattle.frame_stamp.proofs.is_day.Goals as goal

pub returns-then-day-le28 : goal.returns-then-day-le28
returns-then-day-le28 c = says_early c.args.s.now c.pair_number-day.ensures.is c.if-day-le28.true

pub returns : goal.returns
returns c = says_day c.args.s.now c.pair_number.ensures.is c.pair_number-2.ensures.is c.pair_number-month.ensures.is c.pair_number-day.ensures.is c.month_days.ensures
