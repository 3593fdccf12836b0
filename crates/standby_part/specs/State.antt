-- What the code's state stands for: counters, one bound handle with its hold area, the store's places, the pending commits. Assumes nothing.
use Rattle.std.specs.Prelude.{ℕ, List}
use Rattle.model_frame.specs.Sizes.{sizes}
use Rattle.frame_fields.specs.declared.CommitNumber.{CommitNumber}
use Rattle.standby_row.specs.declared.Bound.{Bound as BoundRecord}
use Rattle.standby_segments.specs.Segments.{Holds, held_in}
use Rattle.store_areas.specs.declared.Shape.{Shape}
use Rattle.store_areas.specs.Areas.{places_of}
use Rattle.standby_pending.specs.Pending.{pending_of}
use Rattle.model_standby.specs.State.{Settings, Counters, Bound}
use Rattle.model_standby.specs.Core.{Core}

-- the changes held are those in the first bytes of the hold area, by its words
abbrev pub bound_of : ℕ → BoundRecord → Holds → Bound
bound_of version h area = record { place = h.place; number = h.commit_no.0; held = held_in version area h.held_len; bytes = h.held_bytes }

-- and back: the record of the handle h that is bound so. It is used by a 1, and counts the bytes of the held changes in frame form: 0 where none is held
abbrev pub record_for : ℕ → Bound → BoundRecord
record_for h b = record { used = 1; handle = h; place = b.place; commit_no = record { 0 = b.number }; held_len = sizes b.held; held_bytes = b.bytes }

abbrev pub core_at : Counters → Shape → List ℕ → List ℕ → Core
core_at c s w b = record { counters = c; places = places_of s w b; pending = pending_of w }

abbrev pub settings_for : Shape → ℕ → ℕ → ℕ → Settings
settings_for s room incarnation lag = record { C = s.bytes; M = s.messages; S = s.places; room = room; incarnation = incarnation; lag = lag }

-- a handle's record with another commit number and other held changes
abbrev pub holding_to : BoundRecord → CommitNumber → ℕ → ℕ → BoundRecord
holding_to h n len sum = record { used = h.used; handle = h.handle; place = h.place; commit_no = n; held_len = len; held_bytes = sum }
