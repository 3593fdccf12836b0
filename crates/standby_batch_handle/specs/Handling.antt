-- What a Batch does on the handle that it names: 14 unbound, Nack Diverged for the number, else its part. Assumes nothing.
use Rattle.std.specs.Prelude.{◌≡◌, Bool, true, false, cond, ◌&&◌, List, ℕ, suc, ◌<◌, ◌≤◌, length, eqb, ltb, IfSome}
use Rattle.std.specs.Prelude as prelude
use Rattle.std.specs.Prelude.{Some, None}
use Rattle.std.proofs.Math.Option.{Option, none, some}
use Rattle.model_frame.specs.Frame.{Change, commit, whole, last_whole}
use Rattle.model_frame.specs.Sizes.{sizes}
use Rattle.standby_segments.specs.Segments.{Holds, held_in, with_run}
use Rattle.model_frame.specs.Frame as the_frame
use Rattle.model_session.specs.Session.{top}
use Rattle.standby_row.specs.declared.Bound.{Bound as BoundRecord}
use Rattle.store_areas.specs.declared.Shape.{Shape}
use Rattle.store_areas.specs.Areas.{Rules, used_of}
use Rattle.standby_commit.specs.Settling.{StoreChange, stays, batch_change, StoreAfter}
use Rattle.model_standby.specs.State.{Counters, Bound}
use Rattle.model_standby.specs.Core.{core_handle}
use Rattle.standby_part.specs.declared.PartResult.{PartResult}
use Rattle.standby_part.specs.State.{bound_of, core_at, settings_for}
use Rattle.standby_part.specs.Part.{is_accepted, stored_in, result_of, StoredIs}

-- the commit number n follows the handle's; none follows 2^64 - 1
abbrev pub follows_of : BoundRecord → ℕ → Bool
follows_of h n = eqb n (suc h.commit_no.0) && ltb h.commit_no.0 top

-- a record that was found: it is the handle's, names a place in use, and holds no more than its area has
pub record Sound (handle : ℕ) (h : BoundRecord) (w : List ℕ) (area : Holds) : Type 0 where
  pub own : h.handle ≡ handle
  pub place_used : h.place < used_of w
  pub held_within : h.held_len ≤ length area.bytes

abbrev pub found_of : ℕ → Bool → BoundRecord → Holds → Option Bound
found_of version found h area = cond found (some (bound_of version h area)) none

-- the handle as it is bound, if it is
abbrev pub bound_in : ℕ → prelude.Option BoundRecord → Holds → Option Bound
bound_in version None area = none
bound_in version (Some h) area = some (bound_of version h area)

abbrev pub is_held : the_frame.Part → Bool
is_held commit = false
is_held whole = true
is_held last_whole = true

-- a Whole may close the segment
abbrev pub is_whole : the_frame.Part → Bool
is_whole commit = false
is_whole whole = true
is_whole last_whole = false

-- the hold area: the run after the changes held, for a Whole or LastWhole that isn't refused
abbrev pub hold_area_after : ℕ → prelude.Option BoundRecord → ℕ → the_frame.Part → List ℕ → Holds → ℕ → Holds
hold_area_after version None n part run area refusal = area
hold_area_after version (Some h) n part run area refusal =
    cond (follows_of h n && is_held part) (cond (eqb refusal 0) (with_run (is_whole part) (sizes (held_in version area h.held_len)) run area) area) area

-- what is changed in the store, if the handle is bound
abbrev pub handle_change : ℕ → prelude.Option BoundRecord → the_frame.Part → Bool → StoreChange
handle_change handle None part taken = stays
handle_change handle (Some h) part taken = batch_change handle h.place part taken

-- what the record becomes, if the handle is bound and it changes
abbrev pub StoredFor : ℕ → prelude.Option BoundRecord → Holds → Holds → prelude.Option BoundRecord → Type 0
StoredFor version None area area' o = o ≡ None
StoredFor version (Some h) area area' o = IfSome o (StoredIs version h area area')

-- equal to the definition, whatever the counters and the settings
pub record HandleIs (version : ℕ) (s : Shape) (handle : ℕ) (bound : prelude.Option BoundRecord) (n : ℕ) (part : the_frame.Part) (cs : List Change) (w w' b b' : List ℕ) (area area' : Holds) (d : PartResult) : Type 0 where
  pub is : (c : Counters) (incarnation lag : ℕ)
      → result_of version handle n area' d (core_at c s w' b') ≡ core_handle (settings_for s (length area.bytes) incarnation lag) (core_at c s w b) handle (bound_in version bound area) n part cs
  pub rules : Rules s w' b'
  pub store_after : StoreAfter s (handle_change handle bound part (is_accepted d)) w w' b b'
  pub slot : StoredFor version bound area area' (stored_in d)
