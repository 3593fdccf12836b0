-- The walk over the months of a year. Assumes nothing.
use mathlib.Core.Path.{◌≡◌, refl, sym, ap, ◌∙◌}
use mathlib.Core.Bool.{true, false, cond}
use Prim.Native.Nat.{ℕ, suc, ◌+◌, ◌-◌, ◌*◌, ◌<◌, ◌≤◌}
use native.Mathlib.Omega.{arith}
use borrow.Author.Tests.{lt-ltb, le-ltb}
use lib.Dec.{ltb}
use Rattle.model_text.specs.Calendar.{month_days}
use Rattle.model_times.specs.Days.{days_of, span_at, year_days, month_span, days_before_month, month_at}
use Rattle.model_times.proofs.Calendar.{month_next, month_most, year_most}
use Rattle.times_calendar.specs.Dates.{DateIn}

pub none_before : (y m : ℕ) → m ≤ 1 → 0 ≡ days_before_month y m
unfolding days_before_month
none_before y m h = let e : m - 1 ≡ 0 = omega arith in sym (ap (days_of (month_span y)) e)

-- the sum so far, where the months up to m are counted
pub record Sum (y m days : ℕ) : Type 0 where
  pub is : days ≡ days_before_month y m
  pub most : days ≤ 31 * (m - 1)

pub sum_next : (y m : ℕ) {days more : ℕ} → 1 ≤ m → Sum y m days → more ≡ month_days y m → Sum y (m + 1) (days + more)
sum_next y m h s e =
    let n = month_next y m h in
    let l = month_most y m in
    let p : m + 1 ≡ suc m = omega arith in
    let q = ap (days_before_month y) p in
    record { is = omega (arith, s.is); most = omega (arith, s.most) }

pub sum_ends : (y m i : ℕ) {days : ℕ} → m - 1 ≡ i - 1 → Sum y i days → days ≡ days_before_month y m
unfolding days_before_month
sum_ends y m i e s = s.is ∙ sym (ap (days_of (month_span y)) e)

-- month m is reached, and `left` days of day d are left
pub record Walk (y d m left : ℕ) : Type 0 where
  pub counted : days_before_month y m + left ≡ d
  pub few : left < 366
  pub goes_on : month_at y d ≡ suc (span_at (month_span y) (12 - m) (m - 1) left)

pub start : (y d : ℕ) → d < year_days y → Walk y d 1 d
unfolding month_at
start y d h = record { counted = omega (arith, none_before y 1 (omega arith)); few = let m = year_most y in omega arith; goes_on = refl }

module _ (y d m left : ℕ) (some : 1 ≤ m) (w : Walk y d m left) {days : ℕ} (e : days ≡ month_days y m) where
  span_is : month_span y (m - 1) ≡ days
  span_is = let p : suc (m - 1) ≡ m = omega arith in ap (month_days y) p ∙ sym e

  one_more : m < 12 → span_at (month_span y) (12 - m) (m - 1) left ≡ span_at (month_span y) (suc (12 - (m + 1))) (m - 1) left
  one_more h = let p : 12 - m ≡ suc (12 - (m + 1)) = omega arith in ap (λ (n : ℕ). span_at (month_span y) n (m - 1) left) p

  pub next : m < 12 → days ≤ left → Walk y d (m + 1) (left - days)
  next h l =
      let n = month_next y m some in
      let p : m + 1 ≡ suc m = omega arith in
      let q = ap (days_before_month y) p in
      let t : ltb left (month_span y (m - 1)) ≡ false = ap (ltb left) span_is ∙ le-ltb left days l in
      let u : suc (m - 1) ≡ m + 1 - 1 = omega arith in
      record {
        counted = omega (arith, w.counted);
        few = omega (arith, w.few);
        goes_on =
            w.goes_on ∙ ap suc (one_more h
            ∙ ap (λ b. cond b (m - 1) (span_at (month_span y) (12 - (m + 1)) (suc (m - 1)) (left - month_span y (m - 1)))) t
            ∙ (λ i. span_at (month_span y) (12 - (m + 1)) (u i) (left - span_is i)));
      }

  pub found : m < 12 → left < days → DateIn y d (record { year = y; month = m; day = left + 1 })
  found h l =
      let t : ltb left (month_span y (m - 1)) ≡ true = ap (ltb left) span_is ∙ lt-ltb left days l in
      let p : suc (m - 1) ≡ m = omega arith in
      record {
        year_is = refl;
        month_is =
            sym (w.goes_on ∙ ap suc (one_more h ∙ ap (λ b. cond b (m - 1) (span_at (month_span y) (12 - (m + 1)) (suc (m - 1)) (left - month_span y (m - 1)))) t) ∙ p);
        day_is = omega (arith, w.counted);
      }

pub last : (y d m left : ℕ) → m ≡ 12 → Walk y d m left → DateIn y d (record { year = y; month = 12; day = left + 1 })
last y d m left e w =
    let f = ap (days_before_month y) e in
    record {
      year_is = refl;
      month_is = sym (w.goes_on ∙ (λ i. suc (span_at (month_span y) (12 - e i) (e i - 1) left)));
      day_is = omega (arith, w.counted);
    }
