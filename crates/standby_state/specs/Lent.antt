-- What every call keeps of the areas that it is lent: whose they are. Assumes nothing.
use Rattle.std.specs.Prelude.{◌≡◌}
use Rattle.standby_segments.specs.Segments.{Holds, hold_areas}
use Rattle.standby_state.specs.declared.Areas.{Areas}

-- the hold areas among them
abbrev pub holds_of : Areas → Holds
holds_of a = hold_areas a.holds.now a.ends.now

pub record SameLent (a a' : Areas) : Type 0 where
  pub words : a'.words.ghost_name ≡ a.words.ghost_name
  pub bytes : a'.bytes.ghost_name ≡ a.bytes.ghost_name
  pub holds : a'.holds.ghost_name ≡ a.holds.ghost_name
  pub ends : a'.ends.ghost_name ≡ a.ends.ghost_name
