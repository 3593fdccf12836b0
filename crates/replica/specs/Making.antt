-- What making a standby over a store says. Assumes nothing.
use Rattle.std.specs.Prelude.{ℕ, ◌≡◌, true, false, List, length, set}
use Rattle.model_frame.specs.Refusal
use Rattle.standby_segments.specs.Segments.{Holds}
use Rattle.standby_row.specs.declared.Bound.{Bound}
use Rattle.standby_row.specs.Row.{cleared_all}
use Rattle.store_areas.specs.StoreWord
use Rattle.store_areas.specs.Areas.{allowed, places_of}
use Rattle.model_standby.specs.State.{new_standby}
use Rattle.standby_counters.specs.declared.Replica.{Replica}
use Rattle.standby_state.specs.declared.Settings.{Settings}
use Rattle.standby_state.specs.declared.Answer.{Answer}
use Rattle.standby_state.specs.Answers.{is_refused, is_done}
use Rattle.standby_step.specs.Calls.{standby_of, allowed_all}

-- no epoch yet, no connection, neither promoted nor checked
abbrev pub new_replica : Replica
new_replica = record { epoch = record { 0 = 0 }; connections = 0; promoted = 0; checked = 0; version2 = 0 }

-- a new standby with the store's places, whatever the hold areas; no byte changes, of the words just the count of pending commits, and of the row
-- just that each record is free
pub record MadeNew (s : Settings) (c' : Replica) (row row' : List Bound) (w w' b : List ℕ) (a : Answer) : Type 0 where
  pub done : a ≡ is_done
  pub is : (h : Holds) → standby_of s c' row' w' b h ≡ new_standby (places_of s.shape w b) (length row)
  pub allowed : (h : List ℕ) → allowed_all s row' w' b h ≡ true
  pub words : w' ≡ set w StoreWord.pending 0
  pub freed : row' ≡ cleared_all row

-- 25 where the store's rules are broken, and all is as it was
pub record MadeOver (s : Settings) (c c' : Replica) (row row' : List Bound) (w w' b : List ℕ) (a : Answer) : Type 0 where
  pub refuses : allowed s.shape w b ≡ false → (a ≡ is_refused Refusal.rules_broken) × ((c' ≡ c) × ((row' ≡ row) × (w' ≡ w)))
  pub makes : allowed s.shape w b ≡ true → MadeNew s c' row row' w w' b a
