-- The definitions at work: half, the end, the cap, 31, a lost lease. All is computed.
-- Assumes nothing.
use mathlib.Core.Path.{◌≡◌, refl}
use mathlib.Core.Bool.{Bool, true, false}
use mathlib.Core.List.{List, [], ◌∷◌, map}
use Prim.Native.Nat.{ℕ}
use Rattle.model_lease.specs.Lease.{top, Lease, Outcome, renewed, failed, deposed, Attempt, made, is_due, renewal, attempt}
use Rattle.model_lease.specs.History.{LeaseCall, question, attempted, run, attempts}

abbrev tries : ℕ → ℕ → Outcome → Attempt
tries start now o = record { start = start; now = now; outcome = o }

abbrev lease : ℕ → ℕ → ℕ → Bool → Lease
lease duration until last lost = record { duration = duration; until = until; last = last; lost = lost }

-- durations of 10 and 11 made at 100 have halves of 5: half and one is left, half, less, nothing, the end is past
half_of_10 : map (is_due (made 10 100)) (104 ∷ 105 ∷ 106 ∷ 110 ∷ 111 ∷ []) ≡ false ∷ true ∷ true ∷ true ∷ true ∷ []
half_of_10 = refl

half_of_11 : map (is_due (made 11 100)) (105 ∷ 106 ∷ 107 ∷ 111 ∷ 112 ∷ []) ≡ false ∷ true ∷ true ∷ true ∷ true ∷ []
half_of_11 = refl

-- durations of 0, 1 and 2; 2^64 - 2, whose half is 2^63 - 1; 2^64 - 1, which is due none at its very end
half_of_few : map (λ (d : ℕ). is_due (made d 100) 100) (0 ∷ 1 ∷ 2 ∷ []) ≡ true ∷ false ∷ false ∷ []
half_of_few = refl

half_of_most : map (is_due (made 18446744073709551614 0)) (9223372036854775806 ∷ 9223372036854775807 ∷ []) ≡ false ∷ true ∷ []
half_of_most = refl

never_due : map (is_due (made top 0)) (0 ∷ 9223372036854775808 ∷ top ∷ []) ≡ false ∷ false ∷ false ∷ []
never_due = refl

-- the end is at most 2^64 - 1, at the making and after a success
capped : map (λ (t : ℕ). (made 10 t).until) (18446744073709551604 ∷ 18446744073709551605 ∷ 18446744073709551606 ∷ top ∷ []) ≡ 18446744073709551614 ∷ top ∷ top ∷ top ∷ []
capped = refl

success_capped : attempt (made 10 100) (tries 18446744073709551606 top renewed) ≡ record { refusal = 0; lease = lease 10 top top false }
success_capped = refl

-- a success counts from its start, also when the end has come meanwhile
success : attempt (made 10 100) (tries 105 109 renewed) ≡ record { refusal = 0; lease = lease 10 115 109 false }
success = refl

late_success : attempt (made 10 100) (tries 105 200 renewed) ≡ record { refusal = 0; lease = lease 10 115 200 false }
late_success = refl

-- a failure loses the lease from its end on, a deposed active at once; due or not, an attempt counts
failure : map (λ (now : ℕ). (attempt (made 10 100) (tries 101 now failed)).lease.lost) (101 ∷ 109 ∷ 110 ∷ 111 ∷ []) ≡ false ∷ false ∷ true ∷ true ∷ []
failure = refl

failure_keeps_end : attempt (made 10 100) (tries 101 110 failed) ≡ record { refusal = 0; lease = lease 10 110 110 true }
failure_keeps_end = refl

deposed_at_once : attempt (made 10 100) (tries 100 100 deposed) ≡ record { refusal = 0; lease = lease 10 110 100 true }
deposed_at_once = refl

-- lost stays lost: a success changes nothing but the last time, and it is due none
lost_stays : attempt (lease 10 110 110 true) (tries 111 112 renewed) ≡ record { refusal = 0; lease = lease 10 110 112 true }
lost_stays = refl

lost_not_due : renewal (lease 10 110 110 true) 120 ≡ record { refusal = 0; due = false; lease = lease 10 110 120 true }
lost_not_due = refl

-- 31: a time below the last, an outcome before its start; an equal time is taken; of a lost lease too
question_31 : renewal (made 10 100) 99 ≡ record { refusal = 31; due = false; lease = made 10 100 }
question_31 = refl

question_equal : renewal (made 10 100) 100 ≡ record { refusal = 0; due = false; lease = made 10 100 }
question_equal = refl

start_31 : attempt (made 10 100) (tries 99 120 deposed) ≡ record { refusal = 31; lease = made 10 100 }
start_31 = refl

outcome_31 : attempt (made 10 100) (tries 105 104 deposed) ≡ record { refusal = 31; lease = made 10 100 }
outcome_31 = refl

lost_31 : attempt (lease 10 110 110 true) (tries 109 120 renewed) ≡ record { refusal = 31; lease = lease 10 110 110 true }
lost_31 = refl

-- a list of calls: a success, one refused, a failure that is borne, one at the end as it then is, a success too late
abbrev calls : List LeaseCall
calls = question 104 ∷ attempted (tries 105 107 renewed) ∷ attempted (tries 106 108 deposed) ∷ attempted (tries 110 114 failed) ∷ question 114 ∷ attempted (tries 114 115 failed) ∷ attempted (tries 116 117 renewed) ∷ question 130 ∷ []

calls_so : run (made 10 100) calls ≡ lease 10 115 130 true
calls_so = refl

taken_so : attempts 100 calls ≡ tries 105 107 renewed ∷ tries 110 114 failed ∷ tries 114 115 failed ∷ tries 116 117 renewed ∷ []
taken_so = refl
