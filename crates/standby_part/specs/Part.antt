-- What a Commit, a Whole or a LastWhole does on its handle, past the commit number. Assumes nothing.
use Rattle.std.specs.Prelude.{◌≡◌, Bool, true, false, cond, List, ℕ, ◌≤◌, length, eqb, Option, Some, None, IfSome}
use Rattle.base_refusals.specs.declared.Refusal.{Refusal}
use Rattle.base_refusals.specs.Numbers.{number_of}
use Rattle.model_frame.specs.Frame.{Change, whole, diverged, ack, nack}
use Rattle.model_frame.specs.Frame as the_frame
use Rattle.model_frame.specs.Sizes.{sizes}
use Rattle.frame_fields.specs.declared.CommitNumber.{CommitNumber}
use Rattle.standby_row.specs.declared.Bound.{Bound}
use Rattle.store_areas.specs.declared.Shape.{Shape}
use Rattle.store_areas.specs.Areas.{Rules}
use Rattle.standby_segments.specs.Segments.{Holds, held_in, with_run}
use Rattle.standby_hold.specs.declared.HeldBytes.{HeldBytes}
use Rattle.standby_hold.specs.declared.HoldError.{HoldError}
use Rattle.standby_commit.specs.Settling.{batch_change, StoreAfter, Settles}
use Rattle.model_standby.specs.Answer.{Answer, reply, refused}
use Rattle.model_standby.specs.State.{Counters}
use Rattle.model_standby.specs.Core.{Action, leave, store, Core, CoreResult, core_part}
use Rattle.standby_part.specs.declared.PartResult.{PartResult}
use Rattle.standby_part.specs.State.{bound_of, core_at, settings_for, holding_to}

-- ---- what a result stands for

-- 0, or the number of the refusal
abbrev pub part_refusal : PartResult → ℕ
part_refusal (PartResult.Refused e) = number_of e
part_refusal (PartResult.RefusedHolding e h) = number_of e
part_refusal (PartResult.Diverged h) = 0
part_refusal (PartResult.Accepted h) = 0

-- it is accepted
abbrev pub is_accepted : PartResult → Bool
is_accepted (PartResult.Refused e) = false
is_accepted (PartResult.RefusedHolding e h) = false
is_accepted (PartResult.Diverged h) = false
is_accepted (PartResult.Accepted h) = true

-- what the handle's record becomes, if it changes
abbrev pub stored_in : PartResult → Option Bound
stored_in (PartResult.Refused e) = None
stored_in (PartResult.RefusedHolding e h) = Some h
stored_in (PartResult.Diverged h) = Some h
stored_in (PartResult.Accepted h) = Some h

-- the answer to a Batch with this commit number on a handle, and what is to be done to the row, over the handle's hold area
abbrev pub told_by : ℕ → ℕ → PartResult → Answer
told_by h n (PartResult.Refused e) = refused (number_of e)
told_by h n (PartResult.RefusedHolding e x) = refused (number_of e)
told_by h n (PartResult.Diverged x) = reply (nack h diverged)
told_by h n (PartResult.Accepted x) = reply (ack h n)

abbrev pub action_by : ℕ → ℕ → Holds → PartResult → Action
action_by version h area (PartResult.Refused e) = leave
action_by version h area (PartResult.RefusedHolding e x) = store h (bound_of version x area)
action_by version h area (PartResult.Diverged x) = store h (bound_of version x area)
action_by version h area (PartResult.Accepted x) = store h (bound_of version x area)

abbrev pub result_of : ℕ → ℕ → ℕ → Holds → PartResult → Core → CoreResult
result_of version h n area d k = record { core = k; action = action_by version h area d; answer = told_by h n d }

-- ---- the parts

-- the refusals of a part whose changes aren't held
abbrev pub not_held : Bound → HeldBytes → HoldError → PartResult
not_held h x HoldError.NoReset = PartResult.Refused Refusal.NoReset
not_held h x HoldError.TooManyBytes = PartResult.RefusedHolding Refusal.TooManyBytes (holding_to h h.commit_no x.used x.sum)
not_held h x HoldError.AreaFull = PartResult.Refused Refusal.HoldAreaFull

-- the record takes the number if the changes are applied
abbrev pub settled_of : Bound → CommitNumber → Bool → PartResult
settled_of h n applied = cond applied (PartResult.Accepted (holding_to h n h.held_len h.held_bytes)) (PartResult.Diverged h)

-- the changes are settled at the record's place
pub record SettledIs (s : Shape) (h : Bound) (n : CommitNumber) (cs : List Change) (w w' b b' : List ℕ) (d : PartResult) : Type 0 where
  pub settles : Settles s h.place h.handle cs w w' b b' (is_accepted d)
  pub is : d ≡ settled_of h n (is_accepted d)

-- what a handle's record becomes: it keeps its place, holds no more than its area has, and its length is the size of the changes held
pub record StoredIs (version : ℕ) (h : Bound) (area area' : Holds) (x : Bound) : Type 0 where
  pub place : x.place ≡ h.place
  pub len : h.held_len ≤ length area.bytes → x.held_len ≤ length area.bytes
  pub held : x.held_len ≡ sizes (held_in version area' x.held_len)

-- equal to the definition, whatever the counters and the settings
pub record PartIs (version : ℕ) (s : Shape) (h : Bound) (n : ℕ) (part : the_frame.Part) (cs : List Change) (w w' b b' : List ℕ) (area area' : Holds) (d : PartResult) : Type 0 where
  pub is : (c : Counters) (incarnation lag : ℕ)
      → result_of version h.handle n area' d (core_at c s w' b') ≡ core_part (settings_for s (length area.bytes) incarnation lag) (core_at c s w b) h.handle (bound_of version h area) n part cs
  pub rules : Rules s w' b'
  pub store_after : StoreAfter s (batch_change h.handle h.place part (is_accepted d)) w w' b b'
  pub slot : IfSome (stored_in d) (StoredIs version h area area')

-- a Whole leaves the store as it was
abbrev pub WholeIs : ℕ → Bound → ℕ → List Change → Holds → Holds → PartResult → Type 0
WholeIs version h n cs area area' d = (s : Shape) (w b : List ℕ) → Rules s w b → PartIs version s h n whole cs w w b b area area' d

-- the hold area: the run after the changes held, where it is not refused; a Whole may close the segment
abbrev pub AreaIs : ℕ → Bool → Bound → List ℕ → Holds → Holds → ℕ → Type 0
AreaIs version closes h run area area' refusal = area' ≡ cond (eqb refusal 0) (with_run closes (sizes (held_in version area h.held_len)) run area) area
