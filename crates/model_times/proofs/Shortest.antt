-- A stamp is the front of the text of the time that it says, and its shortest form is that time's text with the fewest digits. Assumes nothing.
use mathlib.Core.Path.{◌≡◌, refl, sym, ap, ◌∙◌}
use mathlib.Core.Bool.{Bool, true, false, cond}
use mathlib.Core.List.{List, [], ◌∷◌, ◌++◌}
use Prim.Native.Nat.{ℕ, zero, suc, ◌+◌, ◌/◌, ◌%◌, ◌≤◌, ◌<◌}
use native.Mathlib.Omega.{arith}
use borrow.Author.Tests.{leb-true, ltb-true, eq-eqb}
use lib.Dec.{leb, ltb, eqb}
use lib.ListN.{length, take, get_or}
use Rattle.model_text.specs.Stamp.{pair_number, year_of, is_stamp}
use Rattle.model_text.proofs.Formed.{and_l, and_r}
use Rattle.model_times.specs.Times.{Time, InCalendar, first_year, seconds, has_number, two_at, three_at, time_in, two, full_text, shortest_length, shortest, text_of, millis_of, picos_of, number, refused, read}
use Rattle.model_times.proofs.Forms.{from_place, by_place, beyond}
use Rattle.model_times.proofs.Stamps.{two_most, two_back, three_most, three_back, Dated, Groups, none_of, one_of, two_of, three_of, four_of, Stamp, stamp_of_bytes}

take_less : (k n : ℕ) (l : List ℕ) → k ≤ n → take k (take n l) ≡ take k l
take_less zero n l h = refl
take_less (suc k) zero l h = absurd (omega arith)
take_less (suc k) (suc n) [] h = refl
take_less (suc k) (suc n) (b ∷ l) h = ap (λ (m : List ℕ). b ∷ m) (take_less k n l (omega arith))

-- ---- the text of what a stamp says

module _ (s : List ℕ) where
  front_again : Dated s → take 17 (full_text (time_in s)) ≡ from_place s 0 17
  front_again d =
      let low : pair_number (get_or s 2 0) (get_or s 3 0) ≤ 99 = two_most d.y2 d.y3 in
      let century : year_of s / 100 ≡ pair_number (get_or s 0 0) (get_or s 1 0) = omega arith in
      let year : year_of s % 100 ≡ pair_number (get_or s 2 0) (get_or s 3 0) = omega arith in
      λ i. (ap two century ∙ two_back d.y0 d.y1) i ++ (ap two year ∙ two_back d.y2 d.y3) i ++ two_back d.month.high d.month.low i ++ two_back d.day.high d.day.low i
      ++ sym d.dash i ∷ two_back d.hour.high d.hour.low i ++ sym d.colon i ∷ two_back d.minute.high d.minute.low i ++ sym d.colons i ∷ two_back d.second.high d.second.low i

  again : Stamp s → take (length s) (full_text (time_in s)) ≡ s
  again x = go x.groups
    where
      go : Groups s → take (length s) (full_text (time_in s)) ≡ s
      go (none_of n) = ap (λ (k : ℕ). take k (full_text (time_in s))) n ∙ front_again x.front ∙ sym (by_place 17 s n)
      go (one_of n p a) =
          ap (λ (k : ℕ). take k (full_text (time_in s))) n
          ∙ (λ i. front_again x.front i ++ sym p i ∷ three_back a.of i) ∙ sym (by_place 21 s n)
      go (two_of n p a b) =
          ap (λ (k : ℕ). take k (full_text (time_in s))) n
          ∙ (λ i. front_again x.front i ++ sym p i ∷ three_back a.of i ++ three_back b.of i) ∙ sym (by_place 24 s n)
      go (three_of n p a b c) =
          ap (λ (k : ℕ). take k (full_text (time_in s))) n
          ∙ (λ i. front_again x.front i ++ sym p i ∷ three_back a.of i ++ three_back b.of i ++ three_back c.of i) ∙ sym (by_place 27 s n)
      go (four_of n p a b c d) =
          ap (λ (k : ℕ). take k (full_text (time_in s))) n
          ∙ (λ i. front_again x.front i ++ sym p i ∷ three_back a.of i ++ three_back b.of i ++ three_back c.of i ++ three_back d.of i) ∙ sym (by_place 30 s n)

  -- a group behind the end is 0
  no_group : (i : ℕ) → length s ≤ i → three_at s i ≡ 0
  no_group i h = let a = beyond s i h in let b = beyond s (i + 1) (omega arith) in let c = beyond s (i + 1 + 1) (omega arith) in omega arith

  -- the groups of a stamp are below 1,000
  pub record Small : Type 0 where
    pub milli : three_at s 18 ≤ 999
    pub micro : three_at s 21 ≤ 999
    pub nano : three_at s 24 ≤ 999
    pub pico : three_at s 27 ≤ 999

  pub small_groups : Groups s → Small
  small_groups (none_of n) =
      let a = no_group 18 (omega arith) in
      let b = no_group 21 (omega arith) in
      let c = no_group 24 (omega arith) in
      let d = no_group 27 (omega arith) in
      record { milli = omega arith; micro = omega arith; nano = omega arith; pico = omega arith }
  small_groups (one_of n p a) =
      let b = no_group 21 (omega arith) in
      let c = no_group 24 (omega arith) in
      let d = no_group 27 (omega arith) in
      record { milli = three_most a.of; micro = omega arith; nano = omega arith; pico = omega arith }
  small_groups (two_of n p a b) =
      let c = no_group 24 (omega arith) in
      let d = no_group 27 (omega arith) in
      record { milli = three_most a.of; micro = three_most b.of; nano = omega arith; pico = omega arith }
  small_groups (three_of n p a b c) =
      let d = no_group 27 (omega arith) in
      record { milli = three_most a.of; micro = three_most b.of; nano = three_most c.of; pico = omega arith }
  small_groups (four_of n p a b c d) = record { milli = three_most a.of; micro = three_most b.of; nano = three_most c.of; pico = three_most d.of }

  abbrev kept : Bool → Bool → Bool → Bool → ℕ
  kept d c b a = cond d (cond c (cond b (cond a 17 21) 24) 27) 30

  kept_most : (a b c d : Bool) → kept d c b a ≤ 30
  kept_most a b c false = omega arith
  kept_most a b false true = omega arith
  kept_most a false true true = omega arith
  kept_most false true true true = omega arith
  kept_most true true true true = omega arith

  kept_27 : (a b c : Bool) → kept true c b a ≤ 27
  kept_27 a b false = omega arith
  kept_27 a false true = omega arith
  kept_27 false true true = omega arith
  kept_27 true true true = omega arith

  kept_24 : (a b : Bool) → kept true true b a ≤ 24
  kept_24 a false = omega arith
  kept_24 false true = omega arith
  kept_24 true true = omega arith

  kept_21 : (a : Bool) → kept true true true a ≤ 21
  kept_21 false = omega arith
  kept_21 true = omega arith

  -- the shortest form isn't longer
  pub not_longer : Groups s → shortest_length (time_in s) ≤ length s
  not_longer (none_of n) =
      let a : eqb (three_at s 18) 0 ≡ true = eq-eqb _ 0 (no_group 18 (omega arith)) in
      let b : eqb (three_at s 21) 0 ≡ true = eq-eqb _ 0 (no_group 21 (omega arith)) in
      let c : eqb (three_at s 24) 0 ≡ true = eq-eqb _ 0 (no_group 24 (omega arith)) in
      let d : eqb (three_at s 27) 0 ≡ true = eq-eqb _ 0 (no_group 27 (omega arith)) in
      rw (d, c, b, a) (omega arith)
  not_longer (one_of n p g) =
      let b : eqb (three_at s 21) 0 ≡ true = eq-eqb _ 0 (no_group 21 (omega arith)) in
      let c : eqb (three_at s 24) 0 ≡ true = eq-eqb _ 0 (no_group 24 (omega arith)) in
      let d : eqb (three_at s 27) 0 ≡ true = eq-eqb _ 0 (no_group 27 (omega arith)) in
      rw (d, c, b) (let k = kept_21 (eqb (three_at s 18) 0) in omega arith)
  not_longer (two_of n p g h) =
      let c : eqb (three_at s 24) 0 ≡ true = eq-eqb _ 0 (no_group 24 (omega arith)) in
      let d : eqb (three_at s 27) 0 ≡ true = eq-eqb _ 0 (no_group 27 (omega arith)) in
      rw (d, c) (let k = kept_24 (eqb (three_at s 18) 0) (eqb (three_at s 21) 0) in omega arith)
  not_longer (three_of n p g h i) =
      let d : eqb (three_at s 27) 0 ≡ true = eq-eqb _ 0 (no_group 27 (omega arith)) in
      rw d (let k = kept_27 (eqb (three_at s 18) 0) (eqb (three_at s 21) 0) (eqb (three_at s 24) 0) in omega arith)
  not_longer (four_of n p g h i j) = let k = kept_most (eqb (three_at s 18) 0) (eqb (three_at s 21) 0) (eqb (three_at s 24) 0) (eqb (three_at s 27) 0) in omega arith

  pub shortest_is : Stamp s → text_of (time_in s) ≡ shortest s
  unfolding text_of shortest
  shortest_is x =
      sym (take_less (shortest_length (time_in s)) (length s) (full_text (time_in s)) (not_longer x.groups))
      ∙ ap (take (shortest_length (time_in s))) (again x)

-- ---- what was read

-- a stamp that has a number
pub record Numbered (s : List ℕ) (millis picos : ℕ) : Type 0 where
  pub stamp : Stamp s
  pub in_calendar : InCalendar (time_in s)
  pub is_millis : millis_of (time_in s) ≡ millis
  pub is_picos : picos_of (time_in s) ≡ picos

differ : {m p n : ℕ} → refused n ≡ number m p → ⊥
differ e = let z : ◌≡◌ {A = ℕ} 0 1 = cc in omega arith

-- the tests of `read` on a stamp
pub numbered_since : (t : Time) → has_number t ≡ true → 1970 ≤ t.year
unfolding has_number
numbered_since t e = omega (arith, leb-true first_year t.year (and_l (leb first_year t.year) (ltb t.second seconds) e))

pub numbered_before : (t : Time) → has_number t ≡ true → t.second < 60
unfolding has_number
numbered_before t e = omega (arith, ltb-true t.second seconds (and_r (leb first_year t.year) (ltb t.second seconds) e))

pub time_in_calendar : (s : List ℕ) → Stamp s → 1970 ≤ year_of s → two_at s 15 < 60 → InCalendar (time_in s)
time_in_calendar s x since before =
    let d = x.front in
    let e = small_groups s x.groups in
    let a : pair_number (get_or s 0 0) (get_or s 1 0) ≤ 99 = two_most d.y0 d.y1 in
    let b : pair_number (get_or s 2 0) (get_or s 3 0) ≤ 99 = two_most d.y2 d.y3 in
    record {
      since = since;
      until = omega arith;
      first = d.month.least;
      twelfth = d.month.most;
      starts = d.day.least;
      exists = x.exists;
      hour = d.hour.most;
      minute = d.minute.most;
      second = omega arith;
      milli = e.milli;
      micro = e.micro;
      nano = e.nano;
      pico = e.pico;
    }

pub numbered : (s : List ℕ) (millis picos : ℕ) → read s ≡ number millis picos → Numbered s millis picos
unfolding read
numbered s millis picos e = go (is_stamp s) refl (has_number (time_in s)) refl e
  where
    go : (w : Bool) → is_stamp s ≡ w → (t : Bool) → has_number (time_in s) ≡ t
        → cond w (cond t (number (millis_of (time_in s)) (picos_of (time_in s))) (refused 33)) (refused 6) ≡ number millis picos → Numbered s millis picos
    go false ew t et e = absurd (differ e)
    go true ew false et e = absurd (differ e)
    go true ew true et e =
        let x = stamp_of_bytes s ew in
        record {
          stamp = x;
          in_calendar = time_in_calendar s x (numbered_since (time_in s) et) (numbered_before (time_in s) et);
          is_millis = cc;
          is_picos = cc;
        }
