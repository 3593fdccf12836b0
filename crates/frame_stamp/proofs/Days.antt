-- The days of a month by the ways of `month_days`, and a day that exists. Assumes nothing.
use mathlib.Core.Path.{◌≡◌, sym, ◌∙◌}
use mathlib.Core.Bool.{Bool, true, false, cond, ◌||◌}
use mathlib.Core.List.{List}
use Prim.Native.Nat.{ℕ, ◌+◌, ◌*◌, ◌≤◌}
use native.Mathlib.Omega.{arith}
use borrow.Author.Tests.{le-leb}
use lib.Dec.{eqb, leb}
use lib.ListN.{get_or}
use Rattle.model_text.specs.Calendar.{is_leap, month_days}
use Rattle.model_text.specs.Stamp.{pair_number, year_of, month_of, day_of, day_exists}

-- every month has the days up to 28
shortest : (y m : ℕ) → 28 ≤ month_days y m
unfolding month_days
shortest y m = go (eqb m 2) (is_leap y) (eqb m 4 || eqb m 6 || eqb m 9 || eqb m 11)
  where
    go : (a b c : Bool) → 28 ≤ cond a (cond b 29 28) (cond c 30 31)
    go true true c = omega arith
    go true false c = omega arith
    go false b true = omega arith
    go false b false = omega arith

in_every : (y m d : ℕ) → d ≤ 28 → true ≡ leb d (month_days y m)
in_every y m d h = let least = shortest y m in sym (le-leb d (month_days y m) (omega arith))

-- a day up to 28, and any other, by what its digits say
pub says_early : (s : List ℕ) {d : ℕ} → d ≡ day_of s → d ≤ 28 → true ≡ day_exists s
unfolding day_exists
says_early s {d} ed h = in_every (year_of s) (month_of s) d h ∙ (λ i. leb (ed i) (month_days (year_of s) (month_of s)))

pub says_day : (s : List ℕ) {a b m d n : ℕ} → a ≡ pair_number (get_or s 0 0) (get_or s 1 0) → b ≡ pair_number (get_or s 2 0) (get_or s 3 0) → m ≡ month_of s → d ≡ day_of s
    → n ≡ month_days (a * 100 + b) m → leb d n ≡ day_exists s
unfolding day_exists
says_day s ea eb em ed en = (λ i. leb (ed i) (en i)) ∙ (λ i. leb (day_of s) (month_days (ea i * 100 + eb i) (em i)))
