-- The text of a time in the calendar is a stamp in the widest rule, and says that time. Assumes nothing.
use mathlib.Core.Path.{◌≡◌, refl, sym, ap, ◌∙◌}
use mathlib.Core.Bool.{Bool, true, false, cond, or-true}
use mathlib.Core.List.{List, [], ◌∷◌, ◌++◌}
use Prim.Native.Nat.{ℕ, ◌+◌, ◌-◌, ◌*◌, ◌/◌, ◌%◌, ◌≤◌}
use native.Mathlib.Omega.{arith}
use borrow.Author.Tests.{le-leb, lt-ltb, eqb-true}
use lib.Dec.{leb, eqb}
use lib.ListN.{take}
use Rattle.model_text.specs.Calendar.{month_days}
use Rattle.model_text.specs.Stamp.{Pattern, pair_number, is_digit, date, clock, day_exists, fraction, has_digits, is_stamp}
use Rattle.model_times.specs.Times.{Time, InCalendar, first_year, seconds, has_number, three_at, time_in, three, full_text, millis_of, picos_of, text_of, number, refused, read}
use Rattle.model_times.proofs.Calendar.{month_most}
use Rattle.model_times.proofs.Forms.{both, is_a_digit, number_of_two, is_two, Facts, fits}

-- ---- digits of a number

abbrev TwoDigits : ℕ → Type 0
TwoDigits n = (is_digit (48 + n / 10) ≡ true) × (is_digit (48 + n % 10) ≡ true)

two_digits : (n : ℕ) → n ≤ 99 → TwoDigits n
two_digits n h = (is_a_digit (48 + n / 10) (omega arith) (omega arith), is_a_digit (48 + n % 10) (omega arith) (omega arith))

hundreds : (n : ℕ) → n ≤ 999 → is_digit (48 + n / 100) ≡ true
hundreds n h = is_a_digit (48 + n / 100) (omega arith) (omega arith)

number_of_three : (n : ℕ) → (48 + n / 100 - 48) * 100 + pair_number (48 + n % 100 / 10) (48 + n % 100 % 10) ≡ n
number_of_three n = let e = number_of_two (n % 100) in omega arith

number_of_four : (n : ℕ) → pair_number (48 + n / 100 / 10) (48 + n / 100 % 10) * 100 + pair_number (48 + n % 100 / 10) (48 + n % 100 % 10) ≡ n
number_of_four n = let e = number_of_two (n / 100) in let f = number_of_two (n % 100) in omega arith

three_digits : (n : ℕ) → n ≤ 999 → (is_digit (48 + n / 100) ≡ true) × TwoDigits (n % 100)
three_digits n h = (is_a_digit (48 + n / 100) (omega arith) (omega arith), two_digits (n % 100) (omega arith))

-- ---- the stamp of a time, with so many groups

-- a time that exists has a number
calendar_has : (t : Time) → InCalendar t → has_number t ≡ true
unfolding has_number
calendar_has t ok = both (le-leb first_year t.year (omega arith)) (lt-ltb t.second seconds (omega arith))

-- what is read once the bytes are a stamp and say that time
reads : (s : List ℕ) (t : Time) → InCalendar t → is_stamp s ≡ true → time_in s ≡ t → read s ≡ number (millis_of t) (picos_of t)
unfolding read
reads s t ok w e =
    ap (λ (x : Time). cond (is_stamp s) (cond (has_number x) (number (millis_of x) (picos_of x)) (refused 33)) (refused 6)) e
    ∙ rw (w, calendar_has t ok) refl

-- a form of the five, and the day
module _ (s : List ℕ) (day : day_exists s ≡ true) where
  wide_0 : has_digits 0 s ≡ true → is_stamp s ≡ true
  unfolding is_stamp
  wide_0 h = rw (h, day) refl

  wide_3 : has_digits 3 s ≡ true → is_stamp s ≡ true
  unfolding is_stamp
  wide_3 h = rw (h, day) (simp or-true)

  wide_6 : has_digits 6 s ≡ true → is_stamp s ≡ true
  unfolding is_stamp
  wide_6 h = rw (h, day) (simp or-true)

  wide_9 : has_digits 9 s ≡ true → is_stamp s ≡ true
  unfolding is_stamp
  wide_9 h = rw (h, day) (simp or-true)

  wide_12 : has_digits 12 s ≡ true → is_stamp s ≡ true
  unfolding is_stamp
  wide_12 h = rw (h, day) (simp or-true)

module _ (t : Time) (ok : InCalendar t) where
  day_small : t.day ≤ 31
  day_small = let m = month_most t.year t.month in omega arith

  -- the facts of a form, whatever follows the second
  dated : (ps : List Pattern) (l : List ℕ) → Facts ps l → Facts (date ++ clock ++ ps) (take 17 (full_text t) ++ l)
  dated ps l f =
      let y = two_digits (t.year / 100) (omega arith) in
      let z = two_digits (t.year % 100) (omega arith) in
      let d = day_small in (
        y.0,
        (
          y.1,
          (
            z.0,
            (
              z.1,
              (
                is_two 1 12 t.month (omega arith) (omega arith) (omega arith),
                (
                  is_two 1 31 t.day (omega arith) d (omega arith),
                  (
                    refl,
                    (
                      is_two 0 23 t.hour (omega arith) (omega arith) (omega arith),
                      (
                        refl,
                        (
                          is_two 0 59 t.minute (omega arith) (omega arith) (omega arith),
                          (refl, (is_two 0 60 t.second (omega arith) (omega arith) (omega arith), f)),
                        ),
                      ),
                    ),
                  ),
                ),
              ),
            ),
          ),
        ),
      )

  -- the day exists, whatever follows
  day_there : (l : List ℕ) → day_exists (take 17 (full_text t) ++ l) ≡ true
  unfolding day_exists
  day_there l =
      let y = number_of_four t.year in
      let m = number_of_two t.month in
      let d = number_of_two t.day in
      (λ i. leb (d i) (month_days (y i) (m i))) ∙ le-leb t.day (month_days t.year t.month) ok.exists

  -- a text of this date and clock, and these groups, is read as this time
  module _ (l : List ℕ) where
    abbrev text : List ℕ
    text = take 17 (full_text t) ++ l

    said : three_at text 18 ≡ t.milli → three_at text 21 ≡ t.micro → three_at text 24 ≡ t.nano → three_at text 27 ≡ t.pico → time_in text ≡ t
    said a b c d =
        λ i. record {
          year = number_of_four t.year i;
          month = number_of_two t.month i;
          day = number_of_two t.day i;
          hour = number_of_two t.hour i;
          minute = number_of_two t.minute i;
          second = number_of_two t.second i;
          milli = a i;
          micro = b i;
          nano = c i;
          pico = d i;
        }

  -- the groups
  ms : (is_digit (48 + t.milli / 100) ≡ true) × TwoDigits (t.milli % 100)
  ms = three_digits t.milli (omega arith)

  us : (is_digit (48 + t.micro / 100) ≡ true) × TwoDigits (t.micro % 100)
  us = three_digits t.micro (omega arith)

  ns : (is_digit (48 + t.nano / 100) ≡ true) × TwoDigits (t.nano % 100)
  ns = three_digits t.nano (omega arith)

  ps : (is_digit (48 + t.pico / 100) ≡ true) × TwoDigits (t.pico % 100)
  ps = three_digits t.pico (omega arith)

  -- ---- the five lengths

  abbrev Says : ℕ → Type 0
  Says n = read (take n (full_text t)) ≡ number (millis_of t) (picos_of t)

  says_17 : t.milli ≡ 0 → t.micro ≡ 0 → t.nano ≡ 0 → t.pico ≡ 0 → Says 17
  unfolding has_digits
  says_17 a b c d = reads (take 17 (full_text t)) t ok (wide_0 (take 17 (full_text t)) (day_there []) (fits (date ++ clock) (take 17 (full_text t)) (dated [] [] tt))) (said [] (sym a) (sym b) (sym c) (sym d))

  says_21 : t.micro ≡ 0 → t.nano ≡ 0 → t.pico ≡ 0 → Says 21
  unfolding has_digits
  says_21 b c d =
      let l : List ℕ = 46 ∷ three t.milli in
      reads (take 21 (full_text t)) t ok (wide_3 (take 21 (full_text t)) (day_there l) (fits (date ++ clock ++ fraction 3) (take 21 (full_text t)) (dated (fraction 3) l (refl, (ms.0, (ms.1.0, (ms.1.1, tt)))))))
      (said l (number_of_three t.milli) (sym b) (sym c) (sym d))

  says_24 : t.nano ≡ 0 → t.pico ≡ 0 → Says 24
  unfolding has_digits
  says_24 c d =
      let l : List ℕ = 46 ∷ three t.milli ++ three t.micro in
      reads (take 24 (full_text t)) t ok (wide_6 (take 24 (full_text t)) (day_there l)
      (fits (date ++ clock ++ fraction 6) (take 24 (full_text t)) (dated (fraction 6) l (refl, (ms.0, (ms.1.0, (ms.1.1, (us.0, (us.1.0, (us.1.1, tt))))))))))
      (said l (number_of_three t.milli) (number_of_three t.micro) (sym c) (sym d))

  says_27 : t.pico ≡ 0 → Says 27
  unfolding has_digits
  says_27 d =
      let l : List ℕ = 46 ∷ three t.milli ++ three t.micro ++ three t.nano in
      reads (take 27 (full_text t)) t ok (wide_9 (take 27 (full_text t)) (day_there l)
      (fits (date ++ clock ++ fraction 9) (take 27 (full_text t)) (dated (fraction 9) l (refl, (ms.0, (ms.1.0, (ms.1.1, (us.0, (us.1.0, (us.1.1, (ns.0, (ns.1.0, (ns.1.1, tt)))))))))))))
      (said l (number_of_three t.milli) (number_of_three t.micro) (number_of_three t.nano) (sym d))

  says_30 : Says 30
  unfolding has_digits
  says_30 =
      let l : List ℕ = 46 ∷ three t.milli ++ three t.micro ++ three t.nano ++ three t.pico in
      reads (take 30 (full_text t)) t ok (wide_12 (take 30 (full_text t)) (day_there l)
      (fits (date ++ clock ++ fraction 12) (take 30 (full_text t))
      (dated (fraction 12) l (refl, (ms.0, (ms.1.0, (ms.1.1, (us.0, (us.1.0, (us.1.1, (ns.0, (ns.1.0, (ns.1.1, (ps.0, (ps.1.0, (ps.1.1, tt))))))))))))))))
      (said l (number_of_three t.milli) (number_of_three t.micro) (number_of_three t.nano) (number_of_three t.pico))

  pub says : read (text_of t) ≡ number (millis_of t) (picos_of t)
  unfolding text_of
  says = go (eqb t.pico 0) refl (eqb t.nano 0) refl (eqb t.micro 0) refl (eqb t.milli 0) refl
    where
      go : (d : Bool) → eqb t.pico 0 ≡ d → (c : Bool) → eqb t.nano 0 ≡ c → (b : Bool) → eqb t.micro 0 ≡ b → (a : Bool) → eqb t.milli 0 ≡ a → Says (cond d (cond c (cond b (cond a 17 21) 24) 27) 30)
      go false ed c ec b eb a ea = says_30
      go true ed false ec b eb a ea = says_27 (eqb-true t.pico 0 ed)
      go true ed true ec false eb a ea = says_24 (eqb-true t.nano 0 ec) (eqb-true t.pico 0 ed)
      go true ed true ec true eb false ea = says_21 (eqb-true t.micro 0 eb) (eqb-true t.nano 0 ec) (eqb-true t.pico 0 ed)
      go true ed true ec true eb true ea = says_17 (eqb-true t.milli 0 ea) (eqb-true t.micro 0 eb) (eqb-true t.nano 0 ec) (eqb-true t.pico 0 ed)
