use Rattle.times_calendar.proofs.Cycle.{inside_year, date_is}
use Rattle.times_calendar.proofs.date_of.Goals as goal

pub date_in_year-requires : goal.date_in_year-requires
date_in_year-requires c = inside_year c.args.day c.year_in_cycle-in_cycle.ensures

pub returns : goal.returns
returns c = date_is c.args.day c.year_in_cycle-in_cycle.ensures c.date_in_year.ensures
