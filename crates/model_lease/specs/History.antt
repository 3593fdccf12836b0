-- What a list of questions and attempts comes to, told from the list alone.
-- Assumes nothing.
use Rattle.std.specs.Prelude.{◌≡◌, Bool, true, false, cond, List, [], ◌∷◌, ◌++◌, ℕ, ltb}
use Rattle.model_lease.specs.Lease.{Lease, Outcome, renewed, failed, deposed, Attempt, end_from, loses, renewal, is_early, attempt}

pub data LeaseCall : Type 0 where
  question : ℕ → LeaseCall
  attempted : Attempt → LeaseCall

-- the lease after a call, and after a list of calls
abbrev pub step : Lease → LeaseCall → Lease
step l (question now) = (renewal l now).lease
step l (attempted a) = (attempt l a).lease

abbrev pub run : Lease → List LeaseCall → Lease
run l [] = l
run l (c ∷ cs) = run (step l c) cs

-- ---- the same from the list, without a lease

-- the last time handed in
abbrev pub time_after : ℕ → LeaseCall → ℕ
time_after last (question now) = cond (ltb now last) last now
time_after last (attempted a) = cond (is_early last a) last a.now

abbrev pub last_time : ℕ → List LeaseCall → ℕ
last_time last [] = last
last_time last (c ∷ cs) = last_time (time_after last c) cs

-- the attempts that were taken, in order: those refused with 31 are left out
abbrev pub attempts : ℕ → List LeaseCall → List Attempt
attempts last [] = []
attempts last (question now ∷ cs) = attempts (time_after last (question now)) cs
attempts last (attempted a ∷ cs) = cond (is_early last a) (attempts last cs) (a ∷ attempts a.now cs)

-- the start of the last success among these, or the making
abbrev pub start_after : ℕ → ℕ → Outcome → ℕ
start_after s start renewed = start
start_after s start failed = s
start_after s start deposed = s

abbrev pub last_start : ℕ → List Attempt → ℕ
last_start s [] = s
last_start s (a ∷ more) = last_start (start_after s a.start a.outcome) more

-- some attempt was deposed, or failed at or past the end as it then was; d is the duration, s the making
pub record Loss (d s : ℕ) (all : List Attempt) : Type 0 where
  pub before : List Attempt
  pub by : Attempt
  pub later : List Attempt
  pub split : all ≡ before ++ (by ∷ later)
  pub lost : loses (end_from (last_start s before) d) by.now by.outcome ≡ true

-- the first such: none of those before it lost the lease
pub record FirstLoss (d s : ℕ) (all : List Attempt) : Type 0 where
  pub loss : Loss d s all
  pub none_before : Loss d s loss.before → ⊥

-- what is claimed of the lease once these attempts were taken
pub record Told (d s : ℕ) (all : List Attempt) (l : Lease) : Type 0 where
  -- it is lost exactly if some attempt lost it
  pub lost_by : l.lost ≡ true → FirstLoss d s all
  pub lost_if : Loss d s all → l.lost ≡ true
  -- the end is that of the last success or, without one, of the making; once lost, of the last success before the loss
  pub end_held : l.lost ≡ false → l.until ≡ end_from (last_start s all) d
  pub end_lost : (f : FirstLoss d s all) → l.until ≡ end_from (last_start s f.loss.before) d
