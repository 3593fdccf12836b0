use Rattle.std.proofs.Common.{refl}
use Rattle.model_text.specs.Calendar.{is_leap}
use Rattle.model_times.specs.Days.{year_days}
use Rattle.times_calendar.proofs.years.Goals as goal

-- the rule over the entire table, computed
pub returns : goal.returns
unfolding is_leap year_days
returns c = refl
