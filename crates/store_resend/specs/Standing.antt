-- That a place in a log is one is a fact. Assumes nothing.
use Rattle.std.proofs.Common.{ℕ, List}
use native.Mathlib.Nat.{ℕ_set}
use Rattle.std.specs.Coded.{le_prop}
use Rattle.store_place.specs.Place.{PositionIn}
use Rattle.store_areas.specs.declared.Shape.{Shape}
use Rattle.store_sessions.specs.Answers.{PositionAt}

pub position_prop : (s : Shape) (w b : List ℕ) (i left dist : ℕ) → IsProp (PositionAt s w b i left dist)
unfolding PositionAt PositionIn
position_prop s w b i left dist = hlevel (le_prop, ℕ_set)
