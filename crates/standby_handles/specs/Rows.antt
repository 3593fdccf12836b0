-- What a lent row of handle records with its hold areas stands for. Assumes nothing.
use Rattle.std.specs.Prelude.{ℕ, ◌*◌, cond, List, [], ◌∷◌, take, drop}
use Rattle.std.proofs.Math.Option.{Option, none, some}
use Rattle.standby_segments.specs.Segments.{Holds, Lengths}
use Rattle.standby_row.specs.declared.Bound.{Bound as BoundRecord}
use Rattle.standby_row.specs.Row.{is_used}
use Rattle.model_standby.specs.Row.{Row}
use Rattle.model_standby.specs.State.{Bound}

-- the hold areas stand one after the other, and so do their words: those of the first place, and those behind
abbrev pub first_area : Lengths → Holds → Holds
first_area room holds = record { bytes = take room.bytes holds.bytes; ends = take room.ends holds.ends }

abbrev pub areas_behind : Lengths → Holds → Holds
areas_behind room holds = record { bytes = drop room.bytes holds.bytes; ends = drop room.ends holds.ends }

-- the hold area of place i
abbrev pub area_at : Lengths → ℕ → Holds → Holds
area_at room i holds = record { bytes = take room.bytes (drop (i * room.bytes) holds.bytes); ends = take room.ends (drop (i * room.ends) holds.ends) }

module _ (bound_of : BoundRecord → Holds → Bound) (room : Lengths) where
  -- a record, with its hold area
  abbrev pub entry_of : BoundRecord → Holds → Option (ℕ × Bound)
  entry_of h area = cond (is_used h) (some (h.handle, bound_of h area)) none

  abbrev pub row_of : List BoundRecord → Holds → Row Bound
  row_of [] holds = []
  row_of (h ∷ hs) holds = entry_of h (first_area room holds) ∷ row_of hs (areas_behind room holds)
