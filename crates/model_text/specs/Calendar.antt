-- The Gregorian calendar, carried back before it was in use: year 0 is divisible by 400. Assumes nothing.
use Rattle.std.specs.Prelude.{ℕ, ◌%◌, Bool, cond, not, ◌&&◌, ◌||◌, eqb}

-- a leap year: divisible by 4, and where it is divisible by 100 also by 400
unfoldable pub is_leap : ℕ → Bool
is_leap y = eqb (y % 4) 0 && (not (eqb (y % 100) 0) || eqb (y % 400) 0)

-- the days of month m in year y: February has 29 in leap years; April, June, September and November have 30
unfoldable pub month_days : ℕ → ℕ → ℕ
month_days y m = cond (eqb m 2) (cond (is_leap y) 29 28) (cond (eqb m 4 || eqb m 6 || eqb m 9 || eqb m 11) 30 31)
