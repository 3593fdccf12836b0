-- Years and months as spans of days: the cycle of 400 years, twelve months make a year, and a date comes back from its days. Assumes nothing.
use mathlib.Core.Path.{◌≡◌, refl, sym, ap, subst, ◌∙◌}
use mathlib.Core.Bool.{Bool, true, false, cond, not, ◌&&◌, ◌||◌}
use Prim.Native.Nat.{ℕ, zero, suc, ◌+◌, ◌-◌, ◌*◌, ◌%◌, ◌<◌, ◌≤◌}
use native.Mathlib.Omega.{arith}
use native.Mathlib.Nat.{zero-add, add-suc}
use lib.Dec.{eqb}
use Rattle.model_text.specs.Calendar.{is_leap, month_days}
use Rattle.model_times.specs.Days.{days_of, span_at, year_days, days_before_year, year_at, month_span, days_before_month, month_at}
use Rattle.model_times.proofs.Cycle.{cycle}
use Rattle.model_times.proofs.Days.{rises_to, least, finds, Lies, lies}

-- ---- years

pub year_least : (y : ℕ) → 365 ≤ year_days y
unfolding year_days
year_least y = go (is_leap y)
  where
    go : (b : Bool) → 365 ≤ cond b 366 365
    go true = omega arith
    go false = omega arith

pub year_most : (y : ℕ) → year_days y ≤ 366
unfolding year_days
year_most y = go (is_leap y)
  where
    go : (b : Bool) → cond b 366 365 ≤ 366
    go true = omega arith
    go false = omega arith

pub before_next : (y : ℕ) → days_before_year (suc y) ≡ days_before_year y + year_days y
unfolding days_before_year
before_next y = refl

pub before_none : days_before_year 0 ≡ 0
unfolding days_before_year
before_none = refl

pub years_rise : (y z : ℕ) → y ≤ z → days_before_year y ≤ days_before_year z
unfolding days_before_year
years_rise y z h = rises_to year_days y z h

leap_again : (y : ℕ) → is_leap (400 + y) ≡ is_leap y
unfolding is_leap
leap_again y =
    let a : (400 + y) % 4 ≡ y % 4 = omega arith in
    let b : (400 + y) % 100 ≡ y % 100 = omega arith in
    let c : (400 + y) % 400 ≡ y % 400 = omega arith in
    λ i. eqb (a i) 0 && (not (eqb (b i) 0) || eqb (c i) 0)

days_again : (y : ℕ) → year_days (400 + y) ≡ year_days y
unfolding year_days
days_again y = ap (λ (b : Bool). cond b 366 365) (leap_again y)

one_cycle : (y : ℕ) → days_before_year (400 + y) ≡ 146097 + days_before_year y
one_cycle zero = cycle ∙ (let e = before_none in omega arith)
one_cycle (suc y) =
    let ih = one_cycle y in
    let s : days_before_year (400 + suc y) ≡ days_before_year (400 + y) + year_days (400 + y) = ap days_before_year (add-suc 400 y) ∙ before_next (400 + y) in
    let t = before_next y in
    let d = days_again y in
    omega arith

pub cycles : (c y : ℕ) → days_before_year (400 * c + y) ≡ 146097 * c + days_before_year y
cycles zero y = ap days_before_year (zero-add y) ∙ sym (zero-add (days_before_year y))
cycles (suc c) y =
    let e : 400 * suc c + y ≡ 400 + (400 * c + y) = omega arith in
    let s = one_cycle (400 * c + y) in
    let ih = cycles c y in
    ap days_before_year e ∙ omega arith

-- 1 January 10000
pub last : days_before_year 10000 ≡ 3652425
last = cycles 25 0 ∙ (let e = before_none in omega arith)

-- a year is found again by a day in it
pub year_found : (y r : ℕ) → r < year_days y → year_at (days_before_year y + r) ≡ y
unfolding year_at days_before_year
year_found y r h =
    let l : y ≤ days_of year_days y = least year_days (λ i. let w = year_least i in omega arith) y in
    finds year_days y 0 (days_of year_days y + r) (days_of year_days y + r) r (omega arith) (let p : days_of year_days (0 + y) ≡ days_of year_days y = ap (days_of year_days) (zero-add y) in omega arith)
    (subst (λ (n : ℕ). r < year_days n) (sym (zero-add y)) h) ∙ zero-add y

pub record InYear (d y : ℕ) : Type 0 where
  pub starts : days_before_year y ≤ d
  pub ends : d < days_before_year y + year_days y

pub in_year : (d : ℕ) → InYear d (year_at d)
unfolding year_at days_before_year
in_year d =
    let l : suc d ≤ days_of year_days (suc d) = least year_days (λ i. let w = year_least i in omega arith) (suc d) in
    let p : days_of year_days (0 + suc d) ≡ days_of year_days (suc d) = ap (days_of year_days) (zero-add (suc d)) in
    let x = lies year_days d 0 d (omega arith) in
    let s = x.starts in
    let e = x.ends in
    record { starts = omega arith; ends = omega arith }

-- ---- months

pub month_least : (y m : ℕ) → 28 ≤ month_days y m
unfolding month_days
month_least y m = go (eqb m 2) (is_leap y) (eqb m 4 || eqb m 6 || eqb m 9 || eqb m 11)
  where
    go : (a b c : Bool) → 28 ≤ cond a (cond b 29 28) (cond c 30 31)
    go true true c = omega arith
    go true false c = omega arith
    go false b true = omega arith
    go false b false = omega arith

pub month_most : (y m : ℕ) → month_days y m ≤ 31
unfolding month_days
month_most y m = go (eqb m 2) (is_leap y) (eqb m 4 || eqb m 6 || eqb m 9 || eqb m 11)
  where
    go : (a b c : Bool) → cond a (cond b 29 28) (cond c 30 31) ≤ 31
    go true true c = omega arith
    go true false c = omega arith
    go false b true = omega arith
    go false b false = omega arith

-- twelve months make a year
twelve : (y : ℕ) → days_of (month_span y) 12 ≡ year_days y
unfolding year_days month_days
twelve y = go (is_leap y)
  where
    go : (b : Bool) → 0 + 31 + cond b 29 28 + 31 + 30 + 31 + 30 + 31 + 31 + 30 + 31 + 30 + 31 ≡ cond b 366 365
    go true = refl
    go false = refl

pub months_rise : (y m n : ℕ) → m ≤ n → days_before_month y m ≤ days_before_month y n
unfolding days_before_month
months_rise y m n h = rises_to (month_span y) (m - 1) (n - 1) (omega arith)

pub month_next : (y m : ℕ) → 1 ≤ m → days_before_month y (suc m) ≡ days_before_month y m + month_days y m
unfolding days_before_month
month_next y m h =
    let e : suc m - 1 ≡ suc (m - 1) = omega arith in
    let f : suc (m - 1) ≡ m = omega arith in
    ap (days_of (month_span y)) e ∙ ap (λ (n : ℕ). days_of (month_span y) (m - 1) + month_days y n) f

-- a day of a month is a day of its year
pub month_in_year : (y m r : ℕ) → 1 ≤ m → m ≤ 12 → r < month_days y m → days_before_month y m + r < year_days y
unfolding days_before_month
month_in_year y m r l h d =
    let e : suc (m - 1) ≡ m = omega arith in
    let s : month_days y (suc (m - 1)) ≡ month_days y m = ap (month_days y) e in
    let t = twelve y in
    let u : days_of (month_span y) (suc (m - 1)) ≤ days_of (month_span y) 12 = rises_to (month_span y) (suc (m - 1)) 12 (omega arith) in
    omega arith

pub month_found : (y m r : ℕ) → 1 ≤ m → m ≤ 12 → r < month_days y m → month_at y (days_before_month y m + r) ≡ m
unfolding month_at days_before_month
month_found y m r l h d =
    let e : suc (m - 1) ≡ m = omega arith in
    let s : month_days y (suc (m - 1)) ≡ month_days y m = ap (month_days y) e in
    let z : month_span y (0 + (m - 1)) ≡ month_days y (suc (m - 1)) = ap (month_span y) (zero-add (m - 1)) in
    let p : days_of (month_span y) (0 + (m - 1)) ≡ days_of (month_span y) (m - 1) = ap (days_of (month_span y)) (zero-add (m - 1)) in
    ap suc (finds (month_span y) (m - 1) 0 11 (days_of (month_span y) (m - 1) + r) r (omega arith) (omega arith) (omega arith) ∙ zero-add (m - 1)) ∙ e

pub record InMonth (y r m : ℕ) : Type 0 where
  pub least : 1 ≤ m
  pub most : m ≤ 12
  pub starts : days_before_month y m ≤ r
  pub ends : r < days_before_month y m + month_days y m

in_span : (y r k : ℕ) → Lies (month_span y) 11 0 r k → InMonth y r (suc k)
unfolding days_before_month
in_span y r k x =
    let p : days_of (month_span y) (suc k - 1) ≡ days_of (month_span y) k = let e : suc k - 1 ≡ k = omega arith in ap (days_of (month_span y)) e in
    let s = x.starts in
    let e = x.ends in
    let u = x.to in
    record { least = omega arith; most = omega arith; starts = omega arith; ends = omega arith }

pub in_month : (y r : ℕ) → r < year_days y → InMonth y r (month_at y r)
unfolding month_at
in_month y r h =
    let t = twelve y in
    in_span y r (span_at (month_span y) 11 0 r) (lies (month_span y) 11 0 r (omega arith))
