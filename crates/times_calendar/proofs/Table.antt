-- A table that keeps the leap rule has the days before each of its years. Assumes nothing.
use mathlib.Core.Path.{◌≡◌, sym, ap, ◌∙◌}
use mathlib.Core.Bool.{true}
use mathlib.Core.List.{List, [], ◌∷◌}
use Prim.Native.Nat.{ℕ, zero, suc, ◌+◌, ◌<◌}
use native.Mathlib.Omega.{arith}
use native.Mathlib.Nat.{add-zero, zero-add, add-suc, suc-add}
use borrow.Author.Tests.{eqb-true}
use lib.Dec.{eqb}
use lib.ListN.{length, get_or}
use Rattle.model_text.proofs.Formed.{and_l, and_r}
use Rattle.model_times.specs.Days.{year_days, days_before_year}
use Rattle.model_times.proofs.Calendar.{before_next, before_none}
use Rattle.times_calendar.specs.Table.{keeps_rule}

module _ (end : ℕ) where
  from : (xs : List ℕ) (i d : ℕ) → d ≡ days_before_year i → keeps_rule end i d xs ≡ true → (k : ℕ) → k < length xs → get_or xs k 0 ≡ days_before_year (i + k)
  from [] i d e t k h = absurd (omega arith)
  from (x ∷ xs) i d e t zero h = eqb-true x d (and_l (eqb x d) (keeps_rule end (suc i) (x + year_days i) xs) t) ∙ e ∙ ap days_before_year (sym (add-zero i))
  from (x ∷ xs) i d e t (suc k) h =
      let p : x ≡ d = eqb-true x d (and_l (eqb x d) (keeps_rule end (suc i) (x + year_days i) xs) t) in
      from xs (suc i) (x + year_days i) (ap (λ (n : ℕ). n + year_days i) (p ∙ e) ∙ sym (before_next i)) (and_r (eqb x d) (keeps_rule end (suc i) (x + year_days i) xs) t) k (omega arith)
      ∙ ap days_before_year (suc-add i k ∙ sym (add-suc i k))

  pub entry_is : (xs : List ℕ) → keeps_rule end 0 0 xs ≡ true → (k : ℕ) → k < length xs → get_or xs k 0 ≡ days_before_year k
  entry_is xs t k h = from xs 0 0 (sym before_none) t k h ∙ ap days_before_year (zero-add k)
