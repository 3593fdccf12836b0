-- Spans of days one after the other: every day lies in one of them, and `span_at` finds it. Assumes nothing.
use mathlib.Core.Path.{◌≡◌, refl, sym, ap, subst, ◌∙◌}
use mathlib.Core.Bool.{Bool, true, false, cond}
use Prim.Native.Nat.{ℕ, zero, suc, ◌+◌, ◌-◌, ◌<◌, ◌≤◌}
use native.Mathlib.Omega.{arith}
use native.Mathlib.Nat.{add-zero, add-suc, suc-add}
use borrow.Author.Tests.{ltb-true, ltb-false, lt-ltb}
use lib.Dec.{ltb}
use Rattle.model_times.specs.Days.{days_of, span_at}

module _ (span : ℕ → ℕ) where
  -- no span ends before it begins
  pub rises : (n k : ℕ) → days_of span n ≤ days_of span (n + k)
  rises n zero = subst (λ (m : ℕ). days_of span n ≤ days_of span m) (sym (add-zero n)) (omega arith)
  rises n (suc k) = subst (λ (m : ℕ). days_of span n ≤ days_of span m) (sym (add-suc n k)) (omega (arith, rises n k))

  pub rises_to : (n m : ℕ) → n ≤ m → days_of span n ≤ days_of span m
  rises_to n m h = let e : n + (m - n) ≡ m = omega arith in subst (λ (k : ℕ). days_of span n ≤ days_of span k) e (rises n (m - n))

  -- where spans have a day at least, as many spans have as many days at least
  pub least : ((i : ℕ) → 1 ≤ span i) → (n : ℕ) → n ≤ days_of span n
  least some zero = omega arith
  least some (suc n) = omega (arith, least some n, some n)

  -- a day r days behind the start of the k-th span after the i-th is found there
  pub finds : (k i fuel d r : ℕ) → k ≤ fuel → d + days_of span i ≡ days_of span (i + k) + r → r < span (i + k) → span_at span fuel i d ≡ i + k
  finds zero i zero d r h e l = sym (add-zero i)
  finds zero i (suc fuel) d r h e l =
      let p : days_of span (i + 0) ≡ days_of span i = ap (days_of span) (add-zero i) in
      let q : span (i + 0) ≡ span i = ap span (add-zero i) in
      let t : ltb d (span i) ≡ true = lt-ltb d (span i) (omega arith) in
      rw t (sym (add-zero i))
  finds (suc k) i zero d r h e l = absurd (omega arith)
  finds (suc k) i (suc fuel) d r h e l =
      let p : days_of span (i + suc k) ≡ days_of span (suc i + k) = ap (days_of span) (add-suc i k ∙ sym (suc-add i k)) in
      let q : span (i + suc k) ≡ span (suc i + k) = ap span (add-suc i k ∙ sym (suc-add i k)) in
      let m : days_of span (suc i) ≤ days_of span (suc i + k) = rises (suc i) k in
      go (ltb d (span i)) refl (omega arith) (finds k (suc i) fuel (d - span i) r (omega arith) (omega arith) (omega arith) ∙ suc-add i k ∙ sym (add-suc i k))
    where
      go : (b : Bool) → ltb d (span i) ≡ b → span i ≤ d → span_at span fuel (suc i) (d - span i) ≡ i + suc k → cond b i (span_at span fuel (suc i) (d - span i)) ≡ i + suc k
      go true t g ih = absurd (let w = ltb-true d (span i) t in omega arith)
      go false t g ih = ih

  -- the span found
  pub record Lies (fuel i d y : ℕ) : Type 0 where
    pub from : i ≤ y
    pub to : y ≤ i + fuel
    pub starts : days_of span y ≤ d + days_of span i
    pub ends : d + days_of span i < days_of span y + span y

  pub lies : (fuel i d : ℕ) → d + days_of span i < days_of span (i + suc fuel) → Lies fuel i d (span_at span fuel i d)
  lies zero i d h =
      let p : days_of span (i + 1) ≡ days_of span i + span i = ap (days_of span) (add-suc i 0 ∙ ap suc (add-zero i)) in
      record { from = omega arith; to = omega arith; starts = omega arith; ends = omega arith }
  lies (suc fuel) i d h =
      go (ltb d (span i)) refl (λ g. lies fuel (suc i) (d - span i) (let p : days_of span (i + suc (suc fuel)) ≡ days_of span (suc i + suc fuel) = ap (days_of span) (add-suc i (suc fuel) ∙ sym (suc-add i (suc fuel))) in omega arith))
    where
      go : (b : Bool) → ltb d (span i) ≡ b → (span i ≤ d → Lies fuel (suc i) (d - span i) (span_at span fuel (suc i) (d - span i))) → Lies (suc fuel) i d (cond b i (span_at span fuel (suc i) (d - span i)))
      go true t ih = let w = ltb-true d (span i) t in record { from = omega arith; to = omega arith; starts = omega arith; ends = omega arith }
      go false t ih =
          let w = ltb-false d (span i) t in
          let x = ih w in
          let a = x.from in
          let b = x.to in
          let c = x.starts in
          let e = x.ends in
          record { from = omega arith; to = omega arith; starts = omega arith; ends = omega arith }
