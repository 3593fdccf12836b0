use Rattle.times_stamp.proofs.Laws.{time_is}
use Rattle.times_stamp.proofs.time_at.Goals as goal

pub returns : goal.returns
returns c = time_is c.args.moment.millis c.args.moment.picos c.date_of-date.result c.date_of-date.ensures
