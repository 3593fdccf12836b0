-- An active's hold on its lease, by a clock whose times are handed in, in nanoseconds.
-- Assumes nothing.
use Rattle.std.specs.Prelude.{◌≡◌, Bool, true, false, cond, not, ◌&&◌, ◌||◌, ℕ, ◌+◌, ◌-◌, ◌/◌, ◌≤◌, min, eqb, leb, ltb}

-- 2^64 - 1
abbrev pub top : ℕ
top = 18446744073709551615

-- `until` is the lease's end, `last` the last time handed in
pub record Lease : Type 0 where
  pub duration : ℕ
  pub until : ℕ
  pub last : ℕ
  pub lost : Bool

-- how an attempt to renew ended: a success, a failure, or the failure of an active that was deposed
pub data Outcome : Type 0 where
  renewed : Outcome
  failed : Outcome
  deposed : Outcome

-- an attempt: its start, the time of its outcome, its outcome
pub record Attempt : Type 0 where
  pub start : ℕ
  pub now : ℕ
  pub outcome : Outcome

-- the end: a start plus the duration, at most 2^64 - 1
abbrev pub end_from : ℕ → ℕ → ℕ
end_from start duration = min (start + duration) top

-- a lease made at a time
abbrev pub made : ℕ → ℕ → Lease
made duration now = record { duration = duration; until = end_from now duration; last = now; lost = false }

-- no more than half the duration, rounded down, is left; a lost lease is due none, a duration of 2^64 - 1 never needs one
abbrev pub is_due : Lease → ℕ → Bool
is_due l now = not l.lost && (not (eqb l.duration top) && leb (l.until - now) (l.duration / 2))

-- the same as facts: twice what is left is no more than the duration
pub record Due (l : Lease) (now : ℕ) : Type 0 where
  pub held : l.lost ≡ false
  pub ends : l.duration ≡ top → ⊥
  pub left : l.until - now + (l.until - now) ≤ l.duration

-- a time is the last one handed in
abbrev pub at : ℕ → Lease → Lease
at now l = record { duration = l.duration; until = l.until; last = now; lost = l.lost }

-- the end after an attempt: a success sets it from the attempt's start
abbrev pub end_after : Lease → ℕ → Outcome → ℕ
end_after l start renewed = end_from start l.duration
end_after l start failed = l.until
end_after l start deposed = l.until

-- whether an outcome at a time loses a lease with this end: the active was deposed, or it failed and the end has come
abbrev pub loses : ℕ → ℕ → Outcome → Bool
loses until now renewed = false
loses until now failed = leb until now
loses until now deposed = true

-- the lease after an attempt; one that is lost stays so
abbrev pub after : Lease → Attempt → Lease
after l a =
    cond l.lost (at a.now l)
    (record { duration = l.duration; until = end_after l a.start a.outcome; last = a.now; lost = loses l.until a.now a.outcome })

-- ---- the two calls: 31 for a time below the last one handed in, and then nothing changes

abbrev pub time_falls : ℕ
time_falls = 31

pub record Asked : Type 0 where
  pub refusal : ℕ
  pub due : Bool
  pub lease : Lease

pub record Tried : Type 0 where
  pub refusal : ℕ
  pub lease : Lease

-- whether a renewal is due
abbrev pub renewal : Lease → ℕ → Asked
renewal l now =
    cond (ltb now l.last) (record { refusal = time_falls; due = false; lease = l })
    (record { refusal = 0; due = is_due l now; lease = at now l })

-- an attempt hands in its start, then the time of its outcome
abbrev pub is_early : ℕ → Attempt → Bool
is_early last a = ltb a.start last || ltb a.now a.start

abbrev pub attempt : Lease → Attempt → Tried
attempt l a = cond (is_early l.last a) (record { refusal = time_falls; lease = l }) (record { refusal = 0; lease = after l a })
