-- What one walk over a row finds, and the numbers of handles by which it tells that two are not one.
-- Assumes nothing.
use Rattle.std.specs.Prelude.{ℕ, List, ◌≡◌, ◌*◌, ◌/◌, ◌%◌, ◌^◌}
use Rattle.standby_row.specs.declared.Bound.{Bound}
use Rattle.standby_row.specs.declared.Spots.{Spots}
use Rattle.standby_row.specs.Row.{find_of, free_of, broken_of, apart_of}

-- the handle's number for its cell
abbrev pub spread_of : ℕ → ℕ
spread_of handle = (handle * 0x27D4EB2D) % 2 ^ 32 / 2 ^ 20

pub record SpotsIn (hs : List Bound) (k places room : ℕ) (s : Spots) : Type 0 where
  pub own : s.own ≡ find_of hs k
  pub free : s.free ≡ free_of hs
  pub broken : s.broken ≡ broken_of hs places room
  pub apart : s.apart ≡ apart_of hs
