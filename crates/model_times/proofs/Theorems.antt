-- What holds of every number and every stamp. Assumes nothing.
use mathlib.Core.Path.{◌≡◌, refl, sym, ap, subst, ◌∙◌}
use mathlib.Core.Bool.{true}
use mathlib.Core.List.{List}
use Prim.Native.Nat.{ℕ, ◌-◌, ◌*◌, ◌≤◌, ◌<◌}
use native.Mathlib.Omega.{arith}
use borrow.Author.Tests.{lt-ltb, ltb-true}
use lib.Dec.{ltb}
use lib.ListN.{length}
use lib.Seq.{length-take-le}
use Rattle.model_text.proofs.Formed.{and_l, and_r}
use Rattle.model_times.specs.Days.{days_before_year}
use Rattle.model_times.specs.Times.{picos_of_milli, time_in, time_at, text_of, shortest_length, shortest, end_of_years, number, read, text, write, has_stamp}
use Rattle.model_times.proofs.Cycle.{epoch}
use Rattle.model_times.proofs.Calendar.{last}
use Rattle.model_times.proofs.Numbers.{time_back, below_end, small, in_calendar, millis_home, picos_home}
use Rattle.model_times.proofs.Forms.{both}
use Rattle.model_times.proofs.Texts.{says}
use Rattle.model_times.proofs.Shortest.{numbered, shortest_is, not_longer}

-- milliseconds before the end of 9999, picoseconds below a millisecond
pub record InRange (millis picos : ℕ) : Type 0 where
  pub before : millis < end_of_years
  pub less : picos < 1000000000

-- a number in range has a stamp, and no other has
in_range_has : (millis picos : ℕ) → millis < end_of_years → picos < 1000000000 → has_stamp millis picos ≡ true
unfolding has_stamp
in_range_has millis picos h l = both (lt-ltb millis end_of_years h) (lt-ltb picos picos_of_milli (omega arith))

pub has_in_range : (millis picos : ℕ) → has_stamp millis picos ≡ true → InRange millis picos
unfolding has_stamp
has_in_range millis picos e = record { before = ltb-true millis end_of_years (and_l (ltb millis end_of_years) (ltb picos picos_of_milli) e); less = omega (arith, ltb-true picos picos_of_milli (and_r (ltb millis end_of_years) (ltb picos picos_of_milli) e)) }

-- the end of 31 December 9999
pub end_is : end_of_years ≡ (days_before_year 10000 - days_before_year 1970) * 86400000
end_is = rw (last, epoch) refl

-- a number in range is written
pub written : (millis picos : ℕ) → millis < end_of_years → picos < 1000000000 → write millis picos ≡ text (text_of (time_at millis picos))
unfolding write
written millis picos h l = rw (in_range_has millis picos h l) refl

-- numbers survive the way to text and home
pub numbers_survive : (millis picos : ℕ) → millis < end_of_years → picos < 1000000000 → read (text_of (time_at millis picos)) ≡ number millis picos
numbers_survive millis picos h l = says (time_at millis picos) (in_calendar millis picos h l) ∙ (λ i. number (millis_home millis picos h l i) (picos_home millis picos h l i))

-- a stamp's number is in range
pub in_range : (s : List ℕ) (millis picos : ℕ) → read s ≡ number millis picos → InRange millis picos
in_range s millis picos e =
    let n = numbered s millis picos e in
    record {
      before = subst (λ (k : ℕ). k < end_of_years) n.is_millis (below_end (time_in s) n.in_calendar);
      less = subst (λ (k : ℕ). k < 1000000000) n.is_picos (small (time_in s) n.in_calendar);
    }

-- texts come back in shortest form
pub shortest_comes_back : (s : List ℕ) (millis picos : ℕ) → read s ≡ number millis picos → text_of (time_at millis picos) ≡ shortest s
shortest_comes_back s millis picos e =
    let n = numbered s millis picos e in
    (λ i. text_of (time_at (sym n.is_millis i) (sym n.is_picos i))) ∙ ap text_of (time_back (time_in s) n.in_calendar) ∙ shortest_is s n.stamp

pub written_shortest : (s : List ℕ) (millis picos : ℕ) → read s ≡ number millis picos → write millis picos ≡ text (shortest s)
written_shortest s millis picos e =
    let r = in_range s millis picos e in
    written millis picos r.before r.less ∙ ap text (shortest_comes_back s millis picos e)

shortest_length_is : (s : List ℕ) → shortest_length (time_in s) ≤ length s → length (shortest s) ≤ length s
unfolding shortest
shortest_length_is s h = let e = length-take-le (shortest_length (time_in s)) s h in omega arith

-- so no shorter stamp has that number
pub none_shorter : (s t : List ℕ) (millis picos : ℕ) → read s ≡ number millis picos → read t ≡ number millis picos → length (shortest s) ≤ length t
none_shorter s t millis picos e f =
    let n = numbered t millis picos f in
    subst (λ (l : List ℕ). length l ≤ length t) (sym (shortest_comes_back t millis picos f) ∙ shortest_comes_back s millis picos e) (shortest_length_is t (not_longer t n.stamp.groups))
