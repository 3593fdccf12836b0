-- A time that exists and its number: each comes back from the other. Assumes nothing.
use mathlib.Core.Path.{◌≡◌, refl, ap, ◌∙◌}
use mathlib.Core.Bool.{Bool, true, false}
use Prim.Native.Nat.{ℕ, suc, ◌+◌, ◌-◌, ◌*◌, ◌/◌, ◌%◌, ◌<◌, ◌≤◌}
use native.Mathlib.Omega.{arith}
use borrow.Author.Tests.{leb-true, leb-false}
use lib.Dec.{leb}
use Rattle.model_times.specs.Days.{year_days, days_before_year, year_at, days_before_month, month_at, days_before}
use Rattle.model_times.specs.Times.{Time, InCalendar, millis_of, picos_of, time_at, end_of_years}
use Rattle.model_times.proofs.Cycle.{epoch}
use Rattle.model_times.proofs.Calendar.{before_next, years_rise, last, year_found, in_year, month_in_year, month_found, InMonth, in_month}

-- ---- from a time to its number and home

module _ (t : Time) (ok : InCalendar t) where
  -- the days of its year before it
  abbrev pub of_year : ℕ
  of_year = days_before_month t.year t.month + (t.day - 1)

  pub in_its_year : of_year < year_days t.year
  in_its_year =
      let a = ok.starts in
      let b = ok.exists in
      month_in_year t.year t.month (t.day - 1) ok.first ok.twelfth (omega arith)

  pub days_split : days_before t.year t.month t.day ≡ days_before_year t.year + of_year
  unfolding days_before
  days_split = omega arith

  pub since_epoch : days_before_year 1970 ≤ days_before t.year t.month t.day
  since_epoch = let a = years_rise 1970 t.year ok.since in let b = days_split in omega arith

  -- the parts of the milliseconds
  abbrev pub days_on : ℕ
  days_on = days_before t.year t.month t.day - days_before_year 1970

  pub in_millis : millis_of t ≡ (((days_on * 24 + t.hour) * 60 + t.minute) * 60 + t.second) * 1000 + t.milli
  unfolding millis_of
  in_millis = refl

  pub below_end : millis_of t < end_of_years
  below_end =
      let a = in_millis in
      let b = ok.hour in
      let c = ok.minute in
      let d = ok.second in
      let e = ok.milli in
      let f = last in
      let g = epoch in
      let h = days_split in
      let i = in_its_year in
      let j = before_next t.year in
      let k = ok.until in
      let l = years_rise (suc t.year) 10000 (omega arith) in
      omega arith

  day_back : days_before_year 1970 + millis_of t / 86400000 ≡ days_before_year t.year + of_year
  day_back =
      let a = in_millis in
      let b = ok.hour in
      let c = ok.minute in
      let d = ok.second in
      let e = ok.milli in
      let q : millis_of t / 86400000 ≡ days_on = omega arith in
      let r = since_epoch in
      let s = days_split in
      omega arith

  hour_back : millis_of t / 3600000 % 24 ≡ t.hour
  hour_back =
      let a = in_millis in
      let b = ok.hour in
      let c = ok.minute in
      let d = ok.second in
      let e = ok.milli in
      let q : millis_of t / 3600000 ≡ days_on * 24 + t.hour = omega arith in
      ap (λ (n : ℕ). n % 24) q ∙ omega arith

  minute_back : millis_of t / 60000 % 60 ≡ t.minute
  minute_back =
      let a = in_millis in
      let c = ok.minute in
      let d = ok.second in
      let e = ok.milli in
      let q : millis_of t / 60000 ≡ (days_on * 24 + t.hour) * 60 + t.minute = omega arith in
      ap (λ (n : ℕ). n % 60) q ∙ omega arith

  second_back : millis_of t / 1000 % 60 ≡ t.second
  second_back =
      let a = in_millis in
      let d = ok.second in
      let e = ok.milli in
      let q : millis_of t / 1000 ≡ ((days_on * 24 + t.hour) * 60 + t.minute) * 60 + t.second = omega arith in
      ap (λ (n : ℕ). n % 60) q ∙ omega arith

  milli_back : millis_of t % 1000 ≡ t.milli
  milli_back = let a = in_millis in let e = ok.milli in ap (λ (n : ℕ). n % 1000) a ∙ omega arith

  pub in_picos : picos_of t ≡ (t.micro * 1000 + t.nano) * 1000 + t.pico
  unfolding picos_of
  in_picos = refl

  pub small : picos_of t < 1000000000
  small = let a = in_picos in let b = ok.micro in let c = ok.nano in let d = ok.pico in omega arith

  micro_back : picos_of t / 1000000 ≡ t.micro
  micro_back = let a = in_picos in let c = ok.nano in let d = ok.pico in omega arith

  nano_back : picos_of t / 1000 % 1000 ≡ t.nano
  nano_back =
      let a = in_picos in
      let c = ok.nano in
      let d = ok.pico in
      let q : picos_of t / 1000 ≡ t.micro * 1000 + t.nano = omega arith in
      ap (λ (n : ℕ). n % 1000) q ∙ omega arith

  pico_back : picos_of t % 1000 ≡ t.pico
  pico_back = let a = in_picos in let d = ok.pico in ap (λ (n : ℕ). n % 1000) a ∙ omega arith

  -- the date
  abbrev day_of_all : ℕ
  day_of_all = days_before_year 1970 + millis_of t / 86400000

  year_back : year_at day_of_all ≡ t.year
  year_back = ap year_at day_back ∙ year_found t.year of_year in_its_year

  day_of_year_back : day_of_all - days_before_year (year_at day_of_all) ≡ of_year
  day_of_year_back = (λ i. day_back i - days_before_year (year_back i)) ∙ (let e : days_before_year t.year + of_year - days_before_year t.year ≡ of_year = omega arith in e)

  month_back : month_at (year_at day_of_all) (day_of_all - days_before_year (year_at day_of_all)) ≡ t.month
  month_back =
      let a = ok.starts in
      let b = ok.exists in
      (λ i. month_at (year_back i) (day_of_year_back i)) ∙ month_found t.year t.month (t.day - 1) ok.first ok.twelfth (omega arith)

  day_of_month_back : day_of_all - days_before_year (year_at day_of_all) - days_before_month (year_at day_of_all) (month_at (year_at day_of_all) (day_of_all - days_before_year (year_at day_of_all))) + 1 ≡ t.day
  day_of_month_back =
      let a = ok.starts in
      (λ i. day_of_year_back i - days_before_month (year_back i) (month_back i) + 1) ∙ (let e : of_year - days_before_month t.year t.month + 1 ≡ t.day = omega arith in e)

  pub time_back : time_at (millis_of t) (picos_of t) ≡ t
  unfolding time_at
  time_back =
      λ i. record {
        year = year_back i;
        month = month_back i;
        day = day_of_month_back i;
        hour = hour_back i;
        minute = minute_back i;
        second = second_back i;
        milli = milli_back i;
        micro = micro_back i;
        nano = nano_back i;
        pico = pico_back i;
      }

-- ---- from a number to its time and home

module _ (millis picos : ℕ) where
  abbrev the_day : ℕ
  the_day = days_before_year 1970 + millis / 86400000

  abbrev year : ℕ
  year = year_at the_day

  abbrev left : ℕ
  left = the_day - days_before_year year

  abbrev month : ℕ
  month = month_at year left

  month_is : InMonth year left month
  month_is =
      let y = in_year the_day in
      let a = y.starts in
      let b = y.ends in
      in_month year left (omega arith)

  -- a year that begins on that day or before it isn't above the day's year
  year_from : (b : ℕ) → days_before_year b ≤ the_day → b ≤ year
  year_from b h =
      let y = in_year the_day in
      let e = y.ends in
      let n = before_next year in
      go (leb b year) refl (λ l. years_rise (suc year) b l)
    where
      go : (t : Bool) → leb b year ≡ t → (suc year ≤ b → days_before_year (suc year) ≤ days_before_year b) → b ≤ year
      go true q r = leb-true b year q
      go false q r =
          let y = in_year the_day in
          let e = y.ends in
          let n = before_next year in
          let l = leb-false b year q in
          let w = r (omega arith) in
          absurd (omega arith)

  -- and one that begins after it is above
  year_to : (b : ℕ) → the_day < days_before_year b → year < b
  year_to b h = go (leb b year) refl (λ l. years_rise b year l)
    where
      go : (t : Bool) → leb b year ≡ t → (b ≤ year → days_before_year b ≤ days_before_year year) → year < b
      go true q r =
          let y = in_year the_day in
          let s = y.starts in
          let w = r (leb-true b year q) in
          absurd (omega arith)
      go false q r = leb-false b year q

  module _ (before : millis < end_of_years) (less : picos < 1000000000) where
    pub in_calendar : InCalendar (time_at millis picos)
    unfolding time_at
    in_calendar =
        let y = in_year the_day in
        let a = y.starts in
        let b = y.ends in
        let m = month_is in
        let c = m.starts in
        let d = m.ends in
        let e = epoch in
        let f = last in
        record {
          since = year_from 1970 (omega arith);
          until = let w = year_to 10000 (omega arith) in omega arith;
          first = m.least;
          twelfth = m.most;
          starts = omega arith;
          exists = omega arith;
          hour = omega arith;
          minute = omega arith;
          second = omega arith;
          milli = omega arith;
          micro = omega arith;
          nano = omega arith;
          pico = omega arith;
        }

    day_home : days_before year month (left - days_before_month year month + 1) ≡ the_day
    unfolding days_before
    day_home =
        let y = in_year the_day in
        let a = y.starts in
        let m = month_is in
        let c = m.starts in
        omega arith

    -- the quotients, one by the other
    hours : millis / 86400000 * 24 + millis / 3600000 % 24 ≡ millis / 3600000
    hours = let e : millis / 86400000 ≡ millis / 3600000 / 24 = omega arith in omega arith

    minutes : millis / 3600000 * 60 + millis / 60000 % 60 ≡ millis / 60000
    minutes = let e : millis / 3600000 ≡ millis / 60000 / 60 = omega arith in omega arith

    seconds : millis / 60000 * 60 + millis / 1000 % 60 ≡ millis / 1000
    seconds = let e : millis / 60000 ≡ millis / 1000 / 60 = omega arith in omega arith

    pub millis_home : millis_of (time_at millis picos) ≡ millis
    unfolding millis_of time_at
    millis_home =
        let d = day_home in
        let h = hours in
        let m = minutes in
        let s = seconds in
        ap (λ (n : ℕ). ((((n - days_before_year 1970) * 24 + millis / 3600000 % 24) * 60 + millis / 60000 % 60) * 60 + millis / 1000 % 60) * 1000 + millis % 1000) d
        ∙ (let e : days_before_year 1970 + millis / 86400000 - days_before_year 1970 ≡ millis / 86400000 = omega arith in
        ap (λ (n : ℕ). (((n * 24 + millis / 3600000 % 24) * 60 + millis / 60000 % 60) * 60 + millis / 1000 % 60) * 1000 + millis % 1000) e)
        ∙ ap (λ (n : ℕ). ((n * 60 + millis / 60000 % 60) * 60 + millis / 1000 % 60) * 1000 + millis % 1000) h
        ∙ ap (λ (n : ℕ). (n * 60 + millis / 1000 % 60) * 1000 + millis % 1000) m
        ∙ ap (λ (n : ℕ). n * 1000 + millis % 1000) s
        ∙ omega arith

    pub picos_home : picos_of (time_at millis picos) ≡ picos
    unfolding picos_of time_at
    picos_home =
        let e : picos / 1000000 * 1000 + picos / 1000 % 1000 ≡ picos / 1000 = let f : picos / 1000000 ≡ picos / 1000 / 1000 = omega arith in omega arith in
        ap (λ (n : ℕ). n * 1000 + picos % 1000) e ∙ omega arith
