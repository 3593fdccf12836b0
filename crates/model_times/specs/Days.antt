-- Days, counted year by year and month by month, from 1 January of year 0 on. Assumes nothing.
use Rattle.std.specs.Prelude.{ℕ, zero, suc, ◌+◌, ◌-◌, cond, ltb}
use Rattle.model_text.specs.Calendar.{is_leap, month_days}

-- ---- spans of days, one after the other

-- the days of the first n spans
abbrev pub days_of : (ℕ → ℕ) → ℕ → ℕ
days_of span zero = 0
days_of span (suc n) = days_of span n + span n

-- the span that a day lies in, of the i-th and the k that follow it; the day is counted from the start of the i-th
abbrev pub span_at : (ℕ → ℕ) → ℕ → ℕ → ℕ → ℕ
span_at span zero i day = i
span_at span (suc k) i day = cond (ltb day (span i)) i (span_at span k (suc i) (day - span i))

-- ---- years

unfoldable pub year_days : ℕ → ℕ
year_days y = cond (is_leap y) 366 365

-- the days before 1 January of year y
unfoldable pub days_before_year : ℕ → ℕ
days_before_year y = days_of year_days y

-- the year that a day lies in: no day is in a year above its own number
unfoldable pub year_at : ℕ → ℕ
year_at day = span_at year_days day 0 day

-- ---- months

-- the days of the i-th month of year y, counted from 0
abbrev pub month_span : ℕ → ℕ → ℕ
month_span y i = month_days y (suc i)

-- the days of year y before month m
unfoldable pub days_before_month : ℕ → ℕ → ℕ
days_before_month y m = days_of (month_span y) (m - 1)

-- the month that a day of year y lies in, of twelve
unfoldable pub month_at : ℕ → ℕ → ℕ
month_at y day = suc (span_at (month_span y) 11 0 day)

-- ---- a date

-- the days before a date
unfoldable pub days_before : ℕ → ℕ → ℕ → ℕ
days_before y m d = days_before_year y + days_before_month y m + (d - 1)
