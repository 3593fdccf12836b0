-- What a call's outcome stands for: the state but for the row, what is to be done to the row, and the answer. Assumes nothing.
use Rattle.std.specs.Prelude.{ℕ, ◌<◌, ◌≤◌, ◌≡◌, min, Bool, true, false, ◌||◌, List, set, Option, is_some, unwrap_or}
use Rattle.base_flags.specs.Flag.{is_set}
use Rattle.frame_stamp.specs.Versions.{version_of}
use Rattle.frame_fields.specs.declared.Incarnation.{Incarnation}
use Rattle.standby_segments.specs.Segments.{Holds, Lengths}
use Rattle.standby_row.specs.declared.Bound.{Bound}
use Rattle.standby_row.specs.declared.lookup.Lookup.{Lookup}
use Rattle.standby_row.specs.Row.{cleared_all, released, rival_of, at_or, own_place, has_place}
use Rattle.standby_handles.specs.Rows.{area_at}
use Rattle.store_areas.specs.declared.Shape.{Shape}
use Rattle.model_text.specs.Version.{latest}
use Rattle.model_standby.specs.State.{Counters}
use Rattle.model_standby.specs.State as state
use Rattle.model_standby.specs.Core.{Action, leave, store, rebind, clear, CoreResult}
use Rattle.standby_part.specs.State.{bound_of, record_for, core_at, settings_for}
use Rattle.standby_counters.specs.declared.Replica.{Replica}
use Rattle.standby_state.specs.declared.Settings.{Settings}
use Rattle.standby_state.specs.declared.Answer.{Answer}
use Rattle.standby_state.specs.declared.Outcome.{Outcome}
use Rattle.standby_state.specs.declared.RowAction.{RowAction}
use Rattle.standby_state.specs.Answers.{answer_of}

abbrev pub counters_of : Replica → Counters
counters_of c = record { epoch = c.epoch.0; connections = c.connections; promoted = is_set c.promoted; checked = is_set c.checked; version = version_of c.version2 }

-- as they are made: a Commit hands up the lowest message on hand
abbrev pub made_settings : Shape → Incarnation → ℕ → Settings
made_settings shape i lag = record { shape = shape; incarnation = i; max_lag = lag; tells_lowest = 1 }

-- with hold areas of `room` bytes
abbrev pub settings_of : Settings → ℕ → state.Settings
settings_of s room = settings_for s.shape room s.incarnation.0 s.max_lag

-- ---- where a record is put, if the one at `freed` is freed first

-- the row has a place for the handle: its own, a free one, or the one that is freed
abbrev pub room_for : Lookup → Option ℕ → Bool
room_for seen freed = is_some seen.own || (has_place seen || is_some freed)

-- the handle's own place, or the first that is free then
abbrev pub spot_of : Lookup → Option ℕ → ℕ
spot_of seen freed = at_or seen.own (min (unwrap_or seen.free seen.len) (unwrap_or freed seen.len))

-- ---- outcomes

abbrev pub leaving : Replica → Answer → Outcome
leaving c a = record { replica = c; answer = a; action = RowAction.Leave }

abbrev pub clearing : Replica → Answer → Outcome
clearing c a = record { replica = c; answer = a; action = RowAction.Clear }

abbrev pub used_for : ℕ → Bound → Bound
used_for k h = record { used = 1; handle = k; place = h.place; commit_no = h.commit_no; held_len = h.held_len; held_bytes = h.held_bytes }

abbrev pub storing : Replica → Lookup → Answer → ℕ → Bound → Outcome
storing c seen a k h = record { replica = c; answer = a; action = RowAction.Store (own_place seen) (used_for k h) }

abbrev pub rebinding : Replica → Lookup → Option ℕ → Answer → Bound → Outcome
rebinding c seen freed a h = record { replica = c; answer = a; action = RowAction.Rebind freed (spot_of seen freed) h }

-- ---- what is done to the row

abbrev pub clears : RowAction → Bool
clears RowAction.Leave = false
clears RowAction.Clear = true
clears (RowAction.Store at h) = false
clears (RowAction.Rebind freed at h) = false

-- a record is put
abbrev pub stores : RowAction → Bool
stores RowAction.Leave = false
stores RowAction.Clear = false
stores (RowAction.Store at h) = true
stores (RowAction.Rebind freed at h) = true

abbrev pub row_after : RowAction → List Bound → List Bound
row_after RowAction.Leave row = row
row_after RowAction.Clear row = cleared_all row
row_after (RowAction.Store at h) row = set row at h
row_after (RowAction.Rebind freed at h) row = set (released freed row) at h

-- ---- what it stands for, over the hold areas, each as long as `room` says

abbrev pub action_for : ℕ → Lengths → Holds → RowAction → Action
action_for version room holds RowAction.Leave = leave
action_for version room holds RowAction.Clear = clear
action_for version room holds (RowAction.Store at h) = store h.handle (bound_of version h (area_at room at holds))
action_for version room holds (RowAction.Rebind freed at h) = rebind h.handle (bound_of version h (area_at room at holds))

abbrev pub action_of : ℕ → Lengths → Holds → Outcome → Action
action_of version room holds o = action_for version room holds o.action

abbrev pub outcome_of : ℕ → Lengths → Shape → List ℕ → List ℕ → Holds → Outcome → CoreResult
outcome_of version room s w b holds o =
    record { core = core_at (counters_of o.replica) s w b; action = action_of version room holds o; answer = answer_of b o.answer }

-- a record that is put fits the row: at the handle's own place, where the hold area is `area`; it is the record of what it stands for, at a place in use, and holds no more than the area has
pub record Fits (seen : Lookup) (used room : ℕ) (area : Holds) (at : ℕ) (h : Bound) : Type 0 where
  pub at_is : at ≡ own_place seen
  pub slot_is : h ≡ record_for h.handle (bound_of latest h area)
  pub slot_place : h.place < used
  pub slot_len : h.held_len ≤ room

-- a handle is bound anew: the record of another handle that names its place is freed, and its own is put where the row has a place then; it is the record of what it stands for, over any hold area, at a place in use
pub record Rebinds (seen : Lookup) (row : List Bound) (used : ℕ) (freed : Option ℕ) (at : ℕ) (h : Bound) : Type 0 where
  pub freed_is : freed ≡ rival_of row h.handle h.place
  pub at_is : at ≡ spot_of seen freed
  pub slot_is : (area : Holds) → h ≡ record_for h.handle (bound_of latest h area)
  pub slot_place : h.place < used
  pub holds_none : h.held_len ≡ 0

-- what is put, if anything is, fits the row
abbrev pub Lands : Lookup → List Bound → ℕ → ℕ → Holds → RowAction → Type 0
Lands seen row used room area RowAction.Leave = Unit
Lands seen row used room area RowAction.Clear = Unit
Lands seen row used room area (RowAction.Store at h) = Fits seen used room area at h
Lands seen row used room area (RowAction.Rebind freed at h) = Rebinds seen row used freed at h
