-- The number of a stamp and the stamp of a number. Assumes nothing.
use Rattle.std.specs.Prelude.{Bool, false, cond, ◌&&◌, ◌||◌, List, [], ◌∷◌, ◌++◌, ℕ, ◌+◌, ◌-◌, ◌*◌, ◌/◌, ◌%◌, ◌≤◌, leb, ltb, eqb, get_or, length, take, drop}
use Rattle.model_text.specs.Calendar.{month_days}
use Rattle.model_text.specs.Stamp.{pair_number, year_of, month_of, day_of, is_stamp}
use Rattle.model_times.specs.Days.{days_before_year, year_at, days_before_month, month_at, days_before}

-- what a stamp says; behind the second four groups of three digits
pub record Time : Type 0 where
  pub year : ℕ
  pub month : ℕ
  pub day : ℕ
  pub hour : ℕ
  pub minute : ℕ
  pub second : ℕ
  pub milli : ℕ
  pub micro : ℕ
  pub nano : ℕ
  pub pico : ℕ

-- a time of the years from 1970 to 9999 that exists, without a second 60
pub record InCalendar (t : Time) : Type 0 where
  pub since : 1970 ≤ t.year
  pub until : t.year ≤ 9999
  pub first : 1 ≤ t.month
  pub twelfth : t.month ≤ 12
  pub starts : 1 ≤ t.day
  pub exists : t.day ≤ month_days t.year t.month
  pub hour : t.hour ≤ 23
  pub minute : t.minute ≤ 59
  pub second : t.second ≤ 59
  pub milli : t.milli ≤ 999
  pub micro : t.micro ≤ 999
  pub nano : t.nano ≤ 999
  pub pico : t.pico ≤ 999

-- ---- a stamp's bytes

-- the number of the two digits, and of the three, from place i on; a digit that isn't there counts as 0
abbrev pub two_at : List ℕ → ℕ → ℕ
two_at s i = pair_number (get_or s i 0) (get_or s (i + 1) 0)

abbrev pub three_at : List ℕ → ℕ → ℕ
three_at s i = (get_or s i 0 - 48) * 100 + two_at s (i + 1)

abbrev pub time_in : List ℕ → Time
time_in s =
    record {
      year = year_of s;
      month = month_of s;
      day = day_of s;
      hour = two_at s 9;
      minute = two_at s 12;
      second = two_at s 15;
      milli = three_at s 18;
      micro = three_at s 21;
      nano = three_at s 24;
      pico = three_at s 27;
    }

-- two and three digits of a number
abbrev pub two : ℕ → List ℕ
two n = (48 + n / 10) ∷ (48 + n % 10) ∷ []

abbrev pub three : ℕ → List ℕ
three n = (48 + n / 100) ∷ two (n % 100)

-- YYYYMMDD-HH:MM:SS. and 12 digits
abbrev pub full_text : Time → List ℕ
full_text t =
    two (t.year / 100) ++ two (t.year % 100) ++ two t.month ++ two t.day ++ 45 ∷ two t.hour ++ 58 ∷ two t.minute ++ 58 ∷ two t.second
    ++ 46 ∷ three t.milli ++ three t.micro ++ three t.nano ++ three t.pico

-- the length of a stamp without the groups of three zeros at its end, and without the point if no group is left
abbrev pub shortest_length : Time → ℕ
shortest_length t = cond (eqb t.pico 0) (cond (eqb t.nano 0) (cond (eqb t.micro 0) (cond (eqb t.milli 0) 17 21) 24) 27) 30

-- a stamp's shortest form
unfoldable pub shortest : List ℕ → List ℕ
shortest s = take (shortest_length (time_in s)) s

-- ---- the number

-- whole milliseconds since 1 January 1970
unfoldable pub millis_of : Time → ℕ
millis_of t = ((((days_before t.year t.month t.day - days_before_year 1970) * 24 + t.hour) * 60 + t.minute) * 60 + t.second) * 1000 + t.milli

-- and the remainder in picoseconds
unfoldable pub picos_of : Time → ℕ
picos_of t = (t.micro * 1000 + t.nano) * 1000 + t.pico

-- what a number says
module _ (millis picos : ℕ) where
  abbrev day_of_all : ℕ
  day_of_all = days_before_year 1970 + millis / 86400000

  abbrev the_year : ℕ
  the_year = year_at day_of_all

  abbrev day_of_year : ℕ
  day_of_year = day_of_all - days_before_year the_year

  abbrev the_month : ℕ
  the_month = month_at the_year day_of_year

  unfoldable pub time_at : Time
  time_at =
      record {
        year = the_year;
        month = the_month;
        day = day_of_year - days_before_month the_year the_month + 1;
        hour = millis / 3600000 % 24;
        minute = millis / 60000 % 60;
        second = millis / 1000 % 60;
        milli = millis % 1000;
        micro = picos / 1000000;
        nano = picos / 1000 % 1000;
        pico = picos % 1000;
      }

-- the text of a time with the fewest of 0, 3, 6, 9 and 12 digits that lose nothing
unfoldable pub text_of : Time → List ℕ
text_of t = take (shortest_length t) (full_text t)

-- ---- both directions, with their refusals

-- a stamp's number, or the refusal: 6 for no stamp in any version, then 33 for a year before 1970 or a second 60
pub data Read : Type 0 where
  number : ℕ → ℕ → Read
  refused : ℕ → Read

abbrev pub first_year : ℕ
first_year = 1970

abbrev pub seconds : ℕ
seconds = 60

unfoldable pub has_number : Time → Bool
has_number t = leb first_year t.year && ltb t.second seconds

unfoldable pub read : List ℕ → Read
read s = cond (is_stamp s) (cond (has_number (time_in s)) (number (millis_of (time_in s)) (picos_of (time_in s))) (refused 33)) (refused 6)

-- a number's stamp, or the refusal: 34 past 31 December 9999, or for a remainder too large
pub data Written : Type 0 where
  text : List ℕ → Written
  turned_down : ℕ → Written

-- the milliseconds from 1 January 1970 to the end of 31 December 9999, and the picoseconds of a millisecond
abbrev pub end_of_years : ℕ
end_of_years = 253402300800000

abbrev pub picos_of_milli : ℕ
picos_of_milli = 1000000000

unfoldable pub has_stamp : ℕ → ℕ → Bool
has_stamp millis picos = ltb millis end_of_years && ltb picos picos_of_milli

unfoldable pub write : ℕ → ℕ → Written
write millis picos = cond (has_stamp millis picos) (text (text_of (time_at millis picos))) (turned_down 34)

-- the same where the text must fit into an area of so many bytes: 9 for one that is longer
abbrev pub lent : ℕ → Written → Written
lent room (text s) = cond (ltb room (length s)) (turned_down 9) (text s)
lent room (turned_down n) = turned_down n

-- the area after it: the text at its start, the rest as it was
abbrev pub area_after : Written → List ℕ → List ℕ
area_after (text s) area = s ++ drop (length s) area
area_after (turned_down n) area = area

-- ---- the order of stamps

-- the first list is smaller where the two differ first
abbrev pub less : List ℕ → List ℕ → Bool
less [] ns = false
less (m ∷ ms) [] = false
less (m ∷ ms) (n ∷ ns) = ltb m n || (eqb m n && less ms ns)

-- year, month, day, hour, minute, second, and the fraction's groups
abbrev pub parts : Time → List ℕ
parts t = t.year ∷ t.month ∷ t.day ∷ t.hour ∷ t.minute ∷ t.second ∷ t.milli ∷ t.micro ∷ t.nano ∷ t.pico ∷ []
