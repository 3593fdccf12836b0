-- A lease as four words, an outcome as a byte, and what the calls on them answer and leave. Assumes nothing.
use Rattle.std.specs.Prelude.{◌≡◌, cond, List, ℕ, get_or, eqb}
use Rattle.model_lease.specs.Lease.{Lease, Outcome, renewed, failed, deposed, Attempt, renewal, attempt}
use Rattle.active_lease.specs.declared.Held.{Held}
use Rattle.base_flags.specs.Flag.{is_set, byte}
use Rattle.c_lease.specs.declared.Due.{Due}

-- 0 renewed, 1 failed, any other deposed
abbrev pub outcome_at : ℕ → Outcome
outcome_at n = cond (eqb n 0) renewed (cond (eqb n 1) failed deposed)

abbrev pub attempt_at : ℕ → ℕ → ℕ → Attempt
attempt_at started now n = record { start = started; now = now; outcome = outcome_at n }

-- the duration, the end, the last time handed in, and whether the lease is lost: every content counts as a lease
abbrev pub lease_in : List ℕ → Lease
lease_in w = record { duration = get_or w 0 0; until = get_or w 1 0; last = get_or w 2 0; lost = is_set (get_or w 3 0) }

-- the same lease by value
abbrev pub held_in : List ℕ → Held
held_in w = record { duration = get_or w 0 0; until = get_or w 1 0; last = get_or w 2 0; lost = byte (is_set (get_or w 3 0)) }

-- the question of the definition; the flag stays as it was
pub record AsksIn (w : List ℕ) (now : ℕ) (r : Due) (new : List ℕ) : Type 0 where
  pub refusal : r.refusal ≡ (renewal (lease_in w) now).refusal
  pub due : r.due ≡ byte (renewal (lease_in w) now).due
  pub lease : lease_in new ≡ (renewal (lease_in w) now).lease
  pub flag : get_or new 3 0 ≡ get_or w 3 0

-- the attempt of the definition; a flag that is set stays as it was, else it is 0 or 1
pub record TriesIn (w : List ℕ) (a : Attempt) (r : ℕ) (new : List ℕ) : Type 0 where
  pub refusal : r ≡ (attempt (lease_in w) a).refusal
  pub lease : lease_in new ≡ (attempt (lease_in w) a).lease
  pub flag : get_or new 3 0 ≡ cond (is_set (get_or w 3 0)) (get_or w 3 0) (byte (attempt (lease_in w) a).lease.lost)
