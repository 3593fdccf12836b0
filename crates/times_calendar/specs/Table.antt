-- The leap rule of a table of days before years, over the entire table. Assumes nothing.
use Rattle.std.specs.Prelude.{Bool, ◌&&◌, List, [], ◌∷◌, ℕ, suc, ◌+◌, eqb}
use Rattle.model_times.specs.Days.{year_days}

-- from year i on, before which there are d days: each entry is the one before it and that year's days, and so is `end` behind the last
abbrev pub keeps_rule : ℕ → ℕ → ℕ → List ℕ → Bool
keeps_rule end i d [] = eqb d end
keeps_rule end i d (x ∷ xs) = eqb x d && keeps_rule end (suc i) (x + year_days i) xs
