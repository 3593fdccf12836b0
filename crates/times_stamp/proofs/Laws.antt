-- Times and texts. Assumes nothing.
use mathlib.Core.Path.{◌≡◌, refl, sym, ap, subst, ◌∙◌}
use mathlib.Core.Bool.{Bool, true, false, cond, and-false}
use mathlib.Core.Logic.{◌⊎◌, inl, inr}
use mathlib.Core.List.{List, ◌++◌}
use Prim.Native.Nat.{ℕ, ◌+◌, ◌-◌, ◌*◌, ◌/◌, ◌%◌, ◌≤◌, ◌<◌}
use native.Mathlib.Omega.{arith}
use borrow.Author.Tests.{lt-ltb, le-ltb, lt-leb, le-leb}
use lib.Dec.{leb, ltb, eqb}
use lib.ListN.{length, take, drop}
use lib.Seq.{length-take-le}
use Rattle.model_text.specs.Stamp.{is_stamp}
use Rattle.model_times.specs.Days.{days_before_year, year_at, days_before_month, month_at}
use Rattle.model_times.specs.Times as model
use Rattle.model_times.specs.Times.{InCalendar, first_year, seconds, has_number, has_stamp, picos_of_milli, time_in, millis_of, picos_of, number, refused, read, full_text, shortest_length, text_of, time_at, end_of_years, text, turned_down, write, lent}
use Rattle.model_times.proofs.Cycle.{epoch}
use Rattle.model_times.proofs.Theorems.{written}
use Rattle.model_times.proofs.Stamps.{Groups, none_of, one_of, two_of, three_of, four_of, stamp_of_bytes}
use Rattle.model_times.proofs.Shortest.{time_in_calendar}
use Rattle.times_calendar.specs.declared.Date.{Date}
use Rattle.times_calendar.specs.Dates.{DateIs}

-- ---- the time of a number

pub time_is : (millis picos : ℕ) (d : Date) → DateIs (millis / 86400000 + 719528) d
    → ◌≡◌ {A = model.Time} (record {
      year = d.year;
      month = d.month;
      day = d.day;
      hour = millis / 3600000 % 24;
      minute = millis / 60000 % 60;
      second = millis / 1000 % 60;
      milli = millis % 1000;
      micro = picos / 1000000;
      nano = picos / 1000 % 1000;
      pico = picos % 1000;
    }) (time_at millis picos)
unfolding time_at
time_is millis picos d e =
    let a : millis / 86400000 + 719528 ≡ days_before_year 1970 + millis / 86400000 = omega (arith, epoch) in
    let y : d.year ≡ year_at (days_before_year 1970 + millis / 86400000) = e.year_is ∙ ap year_at a in
    let m : d.month ≡ month_at (year_at (days_before_year 1970 + millis / 86400000)) (days_before_year 1970 + millis / 86400000 - days_before_year (year_at (days_before_year 1970 + millis / 86400000)))
    = e.month_is ∙ (λ i. month_at (y i) (a i - days_before_year (y i))) in
    let f = e.day_is ∙ (λ i. a i - days_before_year (y i) - days_before_month (y i) (m i) + 1) in
    λ i. record {
      year = y i;
      month = m i;
      day = f i;
      hour = millis / 3600000 % 24;
      minute = millis / 60000 % 60;
      second = millis / 1000 % 60;
      milli = millis % 1000;
      micro = picos / 1000000;
      nano = picos / 1000 % 1000;
      pico = picos % 1000;
    }

-- ---- the text of a time

pub length_most : (t : model.Time) → shortest_length t ≤ 30
length_most t = go (eqb t.milli 0) (eqb t.micro 0) (eqb t.nano 0) (eqb t.pico 0)
  where
    go : (a b c d : Bool) → cond d (cond c (cond b (cond a 17 21) 24) 27) 30 ≤ 30
    go a b c false = omega arith
    go a b false true = omega arith
    go a false true true = omega arith
    go false true true true = omega arith
    go true true true true = omega arith

pub text_length : (t : model.Time) → length (text_of t) ≡ shortest_length t
unfolding text_of
text_length t = length-take-le (shortest_length t) (full_text t) (length_most t)

-- ---- what is written

pub past_end : (millis picos : ℕ) {e p : ℕ} → (e ≤ millis) ⊎ (millis < e × p ≤ picos) → end_of_years ≤ e → picos_of_milli ≤ p → write millis picos ≡ turned_down 34
unfolding write has_stamp
past_end millis picos (inl h) a b = rw (le-ltb millis end_of_years (omega arith)) refl
past_end millis picos (inr h) a b = rw (le-ltb picos picos_of_milli (omega (arith, h.1)), and-false (ltb millis end_of_years)) refl

module _ (millis picos room : ℕ) (h : millis < end_of_years) (l : picos < 1000000000) where
  abbrev t : model.Time
  t = time_at millis picos

  pub no_room : {n : ℕ} → n ≡ shortest_length t → room < n → lent room (write millis picos) ≡ turned_down 9
  no_room e r = ap (lent room) (written millis picos h l) ∙ rw (lt-ltb room (length (text_of t)) (omega (arith, text_length t))) refl

  pub fits : {n : ℕ} → n ≡ shortest_length t → n ≤ room → lent room (write millis picos) ≡ text (text_of t)
  fits e r = ap (lent room) (written millis picos h l) ∙ rw (le-ltb room (length (text_of t)) (omega (arith, text_length t))) refl

-- ---- what is read

module _ (s : List ℕ) where
  pub no_stamp : is_stamp s ≡ false → read s ≡ refused 6
  unfolding read
  no_stamp w = rw w refl

  pub long_enough : is_stamp s ≡ true → 17 ≤ length s
  long_enough w = long_by (stamp_of_bytes s w).groups
    where
      long_by : Groups s → 17 ≤ length s
      long_by (none_of n) = omega arith
      long_by (one_of n p a) = omega arith
      long_by (two_of n p a b) = omega arith
      long_by (three_of n p a b c) = omega arith
      long_by (four_of n p a b c d) = omega arith

  module _ (w : is_stamp s ≡ true) {t : model.Time} (e : t ≡ time_in s) where
    pub in_calendar : 1970 ≤ t.year → t.second < 60 → InCalendar t
    in_calendar h l = subst InCalendar (sym e) (time_in_calendar s (stamp_of_bytes s w) (subst (λ (x : model.Time). 1970 ≤ x.year) e h) (subst (λ (x : model.Time). x.second < 60) e l))

    pub no_number : {y n : ℕ} → (t.year < y) ⊎ (y ≤ t.year × n ≤ t.second) → y ≤ first_year → seconds ≤ n → read s ≡ refused 33
    unfolding read has_number
    no_number (inl h) a b =
        let l : leb first_year (time_in s).year ≡ false = lt-leb first_year (time_in s).year (subst (λ (x : model.Time). x.year < first_year) e (omega arith)) in
        rw (w, l) refl
    no_number (inr h) a b =
        let l : ltb (time_in s).second seconds ≡ false = le-ltb (time_in s).second seconds (subst (λ (x : model.Time). seconds ≤ x.second) e (omega (arith, h.1))) in
        rw (w, l, and-false (leb first_year (time_in s).year)) refl

    pub its_number : first_year ≤ t.year → t.second < seconds → read s ≡ number (millis_of t) (picos_of t)
    unfolding read has_number
    its_number h l =
        let a : leb first_year (time_in s).year ≡ true = le-leb first_year (time_in s).year (subst (λ (x : model.Time). first_year ≤ x.year) e h) in
        let b : ltb (time_in s).second seconds ≡ true = lt-ltb (time_in s).second seconds (subst (λ (x : model.Time). x.second < seconds) e l) in
        rw (w, a, b) (λ i. number (millis_of (sym e i)) (picos_of (sym e i)))

pub in_picos : (t : model.Time) → picos_of t ≡ (t.micro * 1000 + t.nano) * 1000 + t.pico
unfolding picos_of
in_picos t = refl

pub picos_are : (t : model.Time) {n : ℕ} → n ≡ (t.micro * 1000 + t.nano) * 1000 + t.pico → n ≡ picos_of t
picos_are t e = e ∙ sym (in_picos t)

-- ---- what is left in the area

pub put : (t : model.Time) (n : ℕ) (full : List ℕ) (area new : List ℕ) → n ≡ shortest_length t → full ≡ full_text t → new ≡ take n full → new ++ drop n area ≡ text_of t ++ drop (length (text_of t)) area
unfolding text_of
put t n full area new en et e = (λ i. (e ∙ (λ j. take (en j) (et j))) i ++ drop ((en ∙ sym (text_length t)) i) area)
