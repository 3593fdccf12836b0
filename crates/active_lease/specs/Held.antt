-- What the code's lease stands for, and what its calls answer. Assumes nothing.
use Rattle.std.specs.Prelude.{◌≡◌, false, List, [], ◌∷◌, ℕ, Result, Ok, Err}
use Rattle.base_refusals.specs.declared.Refusal.{Refusal}
use Rattle.base_refusals.specs.Numbers.{number_of}
use Rattle.base_flags.specs.Flag.{is_set}
use Rattle.model_lease.specs.Lease.{Lease, Outcome, renewed, failed, deposed, Attempt, renewal, attempt}
use Rattle.model_lease.specs.Lease as model
use Rattle.model_lease.specs.History.{LeaseCall, question, attempted}
use Rattle.active_lease.specs.declared.Held.{Held}
use Rattle.active_lease.specs.declared.Asked.{Asked}
use Rattle.active_lease.specs.declared.RenewalOutcome.{RenewalOutcome}

-- every content counts as a lease
abbrev pub lease_of : Held → Lease
lease_of h = record { duration = h.duration; until = h.until; last = h.last; lost = is_set h.lost }

abbrev pub renewal_of : RenewalOutcome → Outcome
renewal_of RenewalOutcome.Renewed = renewed
renewal_of RenewalOutcome.Failed = failed
renewal_of RenewalOutcome.Deposed = deposed

abbrev pub attempt_of : ℕ → ℕ → RenewalOutcome → Attempt
attempt_of started now outcome = record { start = started; now = now; outcome = renewal_of outcome }

-- the answers of the definition; a refused call leaves the lease as it was
abbrev pub asked_of : Held → Result Asked Refusal → model.Asked
asked_of h (Ok a) = record { refusal = 0; due = a.due; lease = lease_of a.held }
asked_of h (Err e) = record { refusal = number_of e; due = false; lease = lease_of h }

abbrev pub tried_of : Held → Result Held Refusal → model.Tried
tried_of h (Ok after) = record { refusal = 0; lease = lease_of after }
tried_of h (Err e) = record { refusal = number_of e; lease = lease_of h }

-- the lease to go on with
abbrev pub after_asked : Held → Result Asked Refusal → Held
after_asked h (Ok a) = a.held
after_asked h (Err e) = h

abbrev pub after_tried : Held → Result Held Refusal → Held
after_tried h (Ok after) = after
after_tried h (Err e) = h

-- a list of calls, each with the lease as the one before left it
pub data LeaseRuns : Held → List LeaseCall → Held → Type 0 where
  ended : {h : Held} → LeaseRuns h [] h
  asked : {h end : Held} {now : ℕ} {cs : List LeaseCall} (r : Result Asked Refusal) → asked_of h r ≡ renewal (lease_of h) now → LeaseRuns (after_asked h r) cs end → LeaseRuns h (question now ∷ cs) end
  tried : {h end : Held} {a : Attempt} {cs : List LeaseCall} (r : Result Held Refusal) → tried_of h r ≡ attempt (lease_of h) a → LeaseRuns (after_tried h r) cs end → LeaseRuns h (attempted a ∷ cs) end
