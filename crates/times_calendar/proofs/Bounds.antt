-- How many days stand before a year at the least and at the most. Assumes nothing.
use mathlib.Core.Path.{◌≡◌, refl, sym, ap, ◌∙◌}
use mathlib.Core.Bool.{Bool, true, false, cond, not, ◌||◌}
use Prim.Native.Nat.{ℕ, zero, suc, ◌+◌, ◌-◌, ◌*◌, ◌/◌, ◌%◌, ◌<◌, ◌≤◌, min}
use native.Mathlib.Omega.{arith}
use borrow.Author.Tests.{eqb-true, leb-true, leb-false}
use lib.Dec.{eqb, leb}
use Rattle.model_text.specs.Calendar.{is_leap}
use Rattle.model_text.proofs.Formed.{and_l}
use Rattle.model_times.specs.Days.{year_days, days_before_year}
use Rattle.model_times.proofs.Cycle.{cycle}
use Rattle.model_times.proofs.Calendar.{before_next, before_none, years_rise}

by_four : (y : ℕ) → is_leap y ≡ true → y % 4 ≡ 0
unfolding is_leap
by_four y e = eqb-true (y % 4) 0 (and_l (eqb (y % 4) 0) (not (eqb (y % 100) 0) || eqb (y % 400) 0) e)

-- a year has 365 days, or 366 where it is divisible by 4
year_bounds : (y : ℕ) → (365 ≤ year_days y) × (year_days y + (y + 3) / 4 ≤ 365 + (y + 4) / 4)
unfolding year_days
year_bounds y = go (is_leap y) refl
  where
    go : (b : Bool) → is_leap y ≡ b → (365 ≤ cond b 366 365) × (cond b 366 365 + (y + 3) / 4 ≤ 365 + (y + 4) / 4)
    go true e =
        let q : y % 4 ≡ 0 = by_four y e in
        (omega arith, omega arith)
    go false e = (omega arith, omega arith)

pub least : (y : ℕ) → 365 * y ≤ days_before_year y
least zero = omega (arith, before_none)
least (suc y) = omega (arith, least y, before_next y, (year_bounds y).0)

pub most : (y : ℕ) → days_before_year y ≤ 365 * y + (y + 3) / 4
most zero = omega (arith, before_none)
most (suc y) = omega (arith, most y, before_next y, (year_bounds y).1)

-- ---- the year of day r of the cycle, from r / 365, but 399 at most

module _ (r g : ℕ) (small : r < 146097) (is : g ≡ min (r / 365) 399) where
  -- it is the year guessed
  pub this_year : {d : ℕ} → d ≡ days_before_year g → d ≤ r → r < days_before_year g + year_days g
  this_year e l = go (leb 399 g) refl
    where
      go : (t : Bool) → leb 399 g ≡ t → r < days_before_year g + year_days g
      go true q = let h = leb-true 399 g q in omega (arith, years_rise 400 (suc g) (omega arith), before_next g, cycle)
      go false q = let h = leb-false 399 g q in omega (arith, least (suc g), before_next g)

  -- or the year before it
  pub positive : {d : ℕ} → d ≡ days_before_year g → r < d → 1 ≤ g
  positive e l = omega (arith, most g)

  pub year_before : {d : ℕ} → d ≡ days_before_year g → r < d → (days_before_year (g - 1) ≤ r) × (r < days_before_year (g - 1) + year_days (g - 1))
  year_before e l =
      let p : 1 ≤ g = positive e l in
      let q : suc (g - 1) ≡ g = omega arith in
      let b : days_before_year g ≡ days_before_year (g - 1) + year_days (g - 1) = ap days_before_year (sym q) ∙ before_next (g - 1) in
      (omega (arith, most (g - 1)), omega arith)
