-- The days before any year by the table, and the year of a day of the cycle. Assumes nothing.
use mathlib.Core.Path.{◌≡◌, sym, ap, ◌∙◌}
use mathlib.Core.Bool.{true}
use mathlib.Core.List.{List}
use Prim.Native.Nat.{ℕ, suc, ◌+◌, ◌-◌, ◌*◌, ◌/◌, ◌%◌, ◌<◌, ◌≤◌, min}
use native.Mathlib.Omega.{arith}
use lib.ListN.{length, get_or}
use Rattle.model_times.specs.Days.{year_days, days_before_year, year_at, days_before_month, month_at}
use Rattle.model_times.proofs.Calendar.{cycles, before_next, year_found}
use Rattle.times_calendar.specs.Table.{keeps_rule}
use Rattle.times_calendar.specs.declared.YearDay.{YearDay}
use Rattle.times_calendar.specs.declared.Date.{Date}
use Rattle.times_calendar.specs.Dates.{YearIs, DateIn, DateIs}
use Rattle.times_calendar.proofs.Table.{entry_is}
use Rattle.times_calendar.proofs.Bounds.{this_year, year_before}

pub in_table : (xs : List ℕ) → keeps_rule 146097 0 0 xs ≡ true → (y : ℕ) {q e : ℕ} → length xs ≡ 400 → q ≡ y / 400 → e ≡ get_or xs (y % 400) 0 → q * 146097 + e ≡ days_before_year y
in_table xs k y {q} {e} n eq ee =
    let a = entry_is 146097 xs k (y % 400) (omega arith) in
    let b = cycles (y / 400) (y % 400) in
    let s : y ≡ 400 * (y / 400) + y % 400 = omega arith in
    let d = ap days_before_year s in
    omega arith

-- the year found by the table: its entry, and the days behind it
pub record Found (xs : List ℕ) (r y : ℕ) : Type 0 where
  pub inside : y < 400
  pub starts : get_or xs y 0 ≤ r
  pub split : days_before_year y + (r - get_or xs y 0) ≡ r
  pub before : r - get_or xs y 0 < year_days y

module _ (xs : List ℕ) (k : keeps_rule 146097 0 0 xs ≡ true) (n : length xs ≡ 400) (r g : ℕ) (small : r < 146097) (is : g ≡ min (r / 365) 399) where
  pub guessed : get_or xs g 0 ≤ r → Found xs r g
  guessed l =
      let e = entry_is 146097 xs k g (omega arith) in
      let t = this_year r g small is e l in
      record { inside = omega arith; starts = l; split = omega arith; before = omega arith }

  pub one_before : r < get_or xs g 0 → Found xs r (g - 1)
  one_before l =
      let e = entry_is 146097 xs k g (omega arith) in
      let f = entry_is 146097 xs k (g - 1) (omega arith) in
      let t = year_before r g small is e l in
      let a = t.0 in
      let b = t.1 in
      record { inside = omega arith; starts = omega arith; split = omega arith; before = omega arith }

-- ---- any day

module _ (day : ℕ) {y : YearDay} (is : YearIs (day % 146097) y) where
  abbrev year : ℕ
  year = day / 146097 * 400 + y.year

  starts : days_before_year year ≡ day / 146097 * 146097 + days_before_year y.year
  starts = let e : year ≡ 400 * (day / 146097) + y.year = omega arith in ap days_before_year e ∙ cycles (day / 146097) y.year ∙ omega arith

  ends : days_before_year (suc year) ≡ day / 146097 * 146097 + days_before_year (suc y.year)
  ends = let e : suc year ≡ 400 * (day / 146097) + suc y.year = omega arith in ap days_before_year e ∙ cycles (day / 146097) (suc y.year) ∙ omega arith

  pub inside_year : y.day < year_days year
  inside_year = omega (arith, starts, ends, before_next year, before_next y.year, is.before)

  split : day ≡ days_before_year year + y.day
  split = omega (arith, starts, is.split)

  left : day - days_before_year year ≡ y.day
  left = omega (arith, split)

  pub date_is : {d : Date} → DateIn year y.day d → DateIs day d
  date_is {d} e =
      let a : year_at day ≡ year = ap year_at split ∙ year_found year y.day inside_year in
      let b : day - days_before_year d.year ≡ y.day = ap (λ (n : ℕ). day - days_before_year n) e.year_is ∙ left in
      record {
        year_is = e.year_is ∙ sym a;
        month_is = e.month_is ∙ (λ i. month_at (sym e.year_is i) (sym b i));
        day_is = e.day_is ∙ (λ i. sym b i - days_before_month (sym e.year_is i) d.month + 1);
      }
