-- What the functions on days give. Assumes nothing.
use Rattle.std.specs.Prelude.{◌≡◌, ℕ, ◌+◌, ◌-◌, ◌<◌}
use Rattle.model_times.specs.Days.{days_before_year, year_days, year_at, days_before_month, month_at}
use Rattle.times_calendar.specs.declared.YearDay.{YearDay}
use Rattle.times_calendar.specs.declared.Date.{Date}

-- the year of the cycle that day r of the cycle lies in, and the days of that year before it
pub record YearIs (r : ℕ) (y : YearDay) : Type 0 where
  pub inside : y.year < 400
  pub split : days_before_year y.year + y.day ≡ r
  pub before : y.day < year_days y.year

-- the date of a day of a year
pub record DateIn (year day : ℕ) (d : Date) : Type 0 where
  pub year_is : d.year ≡ year
  pub month_is : d.month ≡ month_at year day
  pub day_is : d.day ≡ day - days_before_month year d.month + 1

-- the date of a day
pub record DateIs (day : ℕ) (d : Date) : Type 0 where
  pub year_is : d.year ≡ year_at day
  pub month_is : d.month ≡ month_at d.year (day - days_before_year d.year)
  pub day_is : d.day ≡ day - days_before_year d.year - days_before_month d.year d.month + 1
