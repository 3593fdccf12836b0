-- The days of the cycle of 400 years, and those before 1970, computed. Assumes nothing.
use mathlib.Core.Path.{◌≡◌, refl}
use Rattle.model_text.specs.Calendar.{is_leap}
use Rattle.model_times.specs.Days.{year_days, days_before_year}

-- the cycle has 146,097 days
pub cycle : days_before_year 400 ≡ 146097
unfolding days_before_year year_days is_leap
cycle = refl

-- 1 January 1970
pub epoch : days_before_year 1970 ≡ 719528
unfolding days_before_year year_days is_leap
epoch = refl
