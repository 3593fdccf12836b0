-- Of two stamps that have numbers the earlier has the smaller number. Assumes nothing.
use mathlib.Core.Path.{◌≡◌, refl, sym, ap, ◌∙◌}
use mathlib.Core.Bool.{Bool, true, false, ◌&&◌, ◌||◌}
use mathlib.Core.List.{List, [], ◌∷◌}
use Prim.Native.Nat.{ℕ, suc, ◌+◌, ◌*◌, ◌<◌}
use native.Mathlib.Omega.{arith}
use borrow.Author.Tests.{ltb-true, ltb-false, lt-ltb, le-ltb, eqb-true, eqb-false, eq-eqb, ne_eqb}
use lib.Dec.{ltb, eqb}
use Rattle.model_text.specs.Calendar.{month_days}
use Rattle.model_times.specs.Days.{days_before_year, days_before_month}
use Rattle.model_times.specs.Times.{Time, InCalendar, time_in, millis_of, picos_of, number, read, less, parts}
use Rattle.model_times.proofs.Calendar.{before_next, years_rise, months_rise, month_next}
use Rattle.model_times.proofs.Numbers.{in_its_year, days_split, since_epoch, days_on, in_millis, in_picos}
use Rattle.model_times.proofs.Shortest.{numbered}

-- ---- lists of numbers, the first the greatest

-- the heads differ as the others do, or else what follows decides
joined : (x y X Y : ℕ) (ms ns xs ys : List ℕ) → (x < y → X < Y) → (y < x → Y < X) → (x ≡ y → less ms ns ≡ less (X ∷ xs) (Y ∷ ys)) → less (x ∷ ms) (y ∷ ns) ≡ less (X ∷ xs) (Y ∷ ys)
joined x y X Y ms ns xs ys up down same = go (ltb x y) refl (eqb x y) refl
  where
    go : (l : Bool) → ltb x y ≡ l → (e : Bool) → eqb x y ≡ e → (l || (e && less ms ns)) ≡ less (X ∷ xs) (Y ∷ ys)
    go true p e q = sym (ap (λ (b : Bool). b || (eqb X Y && less xs ys)) (lt-ltb X Y (up (ltb-true x y p))))
    go false p true q = same (eqb-true x y q)
    go false p false q =
        let h = ltb-false x y p in
        let n = eqb-false x y q in
        let d = down (omega (arith, h, n)) in
        sym (rw (le-ltb X Y (omega arith), ne_eqb X Y (λ (z : X ≡ Y). let w : Y < X = d in omega arith)) refl)

heads : (X Y : ℕ) (xs ys : List ℕ) → X ≡ Y → less xs ys ≡ less (X ∷ xs) (Y ∷ ys)
heads X Y xs ys e = sym (rw (le-ltb X Y (omega arith), eq-eqb X Y e) refl)

-- two numbers as one
merged : (x x' y y' X Y : ℕ) (xs ys : List ℕ) → (x < y → X < Y) → (y < x → Y < X) → (x ≡ y → x' < y' → X < Y) → (x ≡ y → y' < x' → Y < X) → (x ≡ y → x' ≡ y' → X ≡ Y)
    → less (x ∷ x' ∷ xs) (y ∷ y' ∷ ys) ≡ less (X ∷ xs) (Y ∷ ys)
merged x x' y y' X Y xs ys a b c d e =
    joined x y X Y (x' ∷ xs) (y' ∷ ys) xs ys a b (λ (p : x ≡ y). joined x' y' X Y xs ys xs ys (c p) (d p) (λ (q : x' ≡ y'). heads X Y xs ys (e p q)))

-- the same behind equal heads
behind : (x y : ℕ) (xs ys ms ns : List ℕ) → less xs ys ≡ less ms ns → less (x ∷ xs) (y ∷ ys) ≡ less (x ∷ ms) (y ∷ ns)
behind x y xs ys ms ns e = ap (λ (b : Bool). ltb x y || (eqb x y && b)) e

-- ---- times

module _ (s t : Time) (p : InCalendar s) (q : InCalendar t) where
  -- the date by its days
  dates : (xs ys : List ℕ) → less (s.year ∷ s.month ∷ s.day ∷ xs) (t.year ∷ t.month ∷ t.day ∷ ys) ≡ less (days_on s p ∷ xs) (days_on t q ∷ ys)
  dates xs ys =
      let a = days_split s p in
      let b = days_split t q in
      let c = in_its_year s p in
      let d = in_its_year t q in
      let e = since_epoch s p in
      let f = since_epoch t q in
      joined s.year t.year (days_on s p) (days_on t q) (s.month ∷ s.day ∷ xs) (t.month ∷ t.day ∷ ys) xs ys
      (λ (l : s.year < t.year). let r = years_rise (suc s.year) t.year l in let n = before_next s.year in omega arith)
      (λ (l : t.year < s.year). let r = years_rise (suc t.year) s.year l in let n = before_next t.year in omega arith)
      (λ (same : s.year ≡ t.year).
      let y : days_before_year s.year ≡ days_before_year t.year = ap days_before_year same in
      let g : days_before_month s.year s.month ≡ days_before_month t.year s.month = ap (λ (n : ℕ). days_before_month n s.month) same in
      let k : month_days s.year s.month ≡ month_days t.year s.month = ap (λ (n : ℕ). month_days n s.month) same in
      joined s.month t.month (days_on s p) (days_on t q) (s.day ∷ xs) (t.day ∷ ys) xs ys
      (λ (l : s.month < t.month). let r = months_rise t.year (suc s.month) t.month l in let n = month_next t.year s.month p.first in omega arith)
      (λ (l : t.month < s.month). let r = months_rise t.year (suc t.month) s.month l in let n = month_next t.year t.month q.first in omega arith)
      (λ (month : s.month ≡ t.month).
      let h : days_before_month t.year s.month ≡ days_before_month t.year t.month = ap (days_before_month t.year) month in
      joined s.day t.day (days_on s p) (days_on t q) xs ys xs ys
      (λ (l : s.day < t.day). omega arith)
      (λ (l : t.day < s.day). omega arith)
      (λ (day : s.day ≡ t.day). heads (days_on s p) (days_on t q) xs ys (omega arith))))

  -- the clock and the milliseconds
  clocks : (xs ys : List ℕ) → less (s.year ∷ s.month ∷ s.day ∷ s.hour ∷ s.minute ∷ s.second ∷ s.milli ∷ xs) (t.year ∷ t.month ∷ t.day ∷ t.hour ∷ t.minute ∷ t.second ∷ t.milli ∷ ys)
      ≡ less (millis_of s ∷ xs) (millis_of t ∷ ys)
  clocks xs ys =
      let a = in_millis s p in
      let b = in_millis t q in
      let h : ℕ = days_on s p * 24 + s.hour in
      let k : ℕ = days_on t q * 24 + t.hour in
      let m : ℕ = h * 60 + s.minute in
      let n : ℕ = k * 60 + t.minute in
      let u : ℕ = m * 60 + s.second in
      let v : ℕ = n * 60 + t.second in
      dates (s.hour ∷ s.minute ∷ s.second ∷ s.milli ∷ xs) (t.hour ∷ t.minute ∷ t.second ∷ t.milli ∷ ys)
      ∙ merged (days_on s p) s.hour (days_on t q) t.hour h k (s.minute ∷ s.second ∷ s.milli ∷ xs) (t.minute ∷ t.second ∷ t.milli ∷ ys)
      (λ l. omega arith) (λ l. omega arith) (λ e l. omega arith) (λ e l. omega arith) (λ e f. omega arith)
      ∙ merged h s.minute k t.minute m n (s.second ∷ s.milli ∷ xs) (t.second ∷ t.milli ∷ ys)
      (λ l. omega arith) (λ l. omega arith) (λ e l. omega arith) (λ e l. omega arith) (λ e f. omega arith)
      ∙ merged m s.second n t.second u v (s.milli ∷ xs) (t.milli ∷ ys)
      (λ l. omega arith) (λ l. omega arith) (λ e l. omega arith) (λ e l. omega arith) (λ e f. omega arith)
      ∙ merged u s.milli v t.milli (millis_of s) (millis_of t) xs ys
      (λ l. omega arith) (λ l. omega arith) (λ e l. omega arith) (λ e l. omega arith) (λ e f. omega arith)

  fractions : less (s.micro ∷ s.nano ∷ s.pico ∷ []) (t.micro ∷ t.nano ∷ t.pico ∷ []) ≡ less (picos_of s ∷ []) (picos_of t ∷ [])
  fractions =
      let a = in_picos s p in
      let b = in_picos t q in
      merged s.micro s.nano t.micro t.nano (s.micro * 1000 + s.nano) (t.micro * 1000 + t.nano) (s.pico ∷ []) (t.pico ∷ [])
      (λ l. omega arith) (λ l. omega arith) (λ e l. omega arith) (λ e l. omega arith) (λ e f. omega arith)
      ∙ merged (s.micro * 1000 + s.nano) s.pico (t.micro * 1000 + t.nano) t.pico (picos_of s) (picos_of t) [] []
      (λ l. omega arith) (λ l. omega arith) (λ e l. omega arith) (λ e l. omega arith) (λ e f. omega arith)

  by_number : less (parts s) (parts t) ≡ less (millis_of s ∷ picos_of s ∷ []) (millis_of t ∷ picos_of t ∷ [])
  by_number =
      clocks (s.micro ∷ s.nano ∷ s.pico ∷ []) (t.micro ∷ t.nano ∷ t.pico ∷ [])
      ∙ behind (millis_of s) (millis_of t) (s.micro ∷ s.nano ∷ s.pico ∷ []) (t.micro ∷ t.nano ∷ t.pico ∷ []) (picos_of s ∷ []) (picos_of t ∷ []) fractions

-- a stamp is earlier than another exactly if its number is smaller
pub earlier_is_smaller : (s t : List ℕ) (m p n q : ℕ) → read s ≡ number m p → read t ≡ number n q → less (parts (time_in s)) (parts (time_in t)) ≡ less (m ∷ p ∷ []) (n ∷ q ∷ [])
earlier_is_smaller s t m p n q e f =
    let a = numbered s m p e in
    let b = numbered t n q f in
    by_number (time_in s) (time_in t) a.in_calendar b.in_calendar ∙ (λ i. less (a.is_millis i ∷ a.is_picos i ∷ []) (b.is_millis i ∷ b.is_picos i ∷ []))
