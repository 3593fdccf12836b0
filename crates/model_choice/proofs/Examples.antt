-- The choice computed: each case of the request once. Assumes nothing.
use mathlib.Core.Path.{◌≡◌, refl}
use Prim.Native.Nat.{ℕ}
use mathlib.Core.List.{List, [], ◌∷◌, map}
use mathlib.Core.Bool.{Bool, true, false}
use mathlib.Core.Option.{none}
use Rattle.model_frame.specs.Frame.{Key}
use Rattle.model_standby.specs.Store.{Place}
use Rattle.model_choice.specs.Choice.{StandbyCopy, first_that_fits, chosen}

-- a session: the one byte of its key's sender, and its next outgoing number
abbrev session : ℕ × ℕ → Place
session (k, n) = record {
  key = record { begin = []; sender = k ∷ []; target = []; suffix = [] };
  stored = record { session = record { stamp = []; next_out = n; next_in = 1; in_flight = none; marks = []; messages = [] }; durable = false };
}

-- a listed copy: its epoch, whether it is checked, its sessions
abbrev copy : ℕ → Bool → List (ℕ × ℕ) → StandbyCopy
copy e c ss = record { is_listed = true; epoch = e; is_checked = c; places = map session ss }

abbrev unlisted : StandbyCopy
unlisted = record { is_listed = false; epoch = 9; is_checked = true; places = [] }

table : map chosen
    ([]  -- no copy
    ∷ (unlisted ∷ [])  -- none listed
    ∷ (copy 1 false ((1, 5) ∷ []) ∷ [])  -- none checked
    ∷ (unlisted ∷ copy 1 true ((1, 5) ∷ []) ∷ [])  -- an unlisted one keeps its number
    ∷ (copy 1 true ((1, 5) ∷ []) ∷ copy 1 true ((1, 6) ∷ []) ∷ [])  -- the larger number
    ∷ (copy 1 true ((1, 5) ∷ []) ∷ copy 1 true ((1, 5) ∷ []) ∷ [])  -- ties: the first
    ∷ (copy 1 true ((1, 5) ∷ (2, 4) ∷ []) ∷ copy 1 true ((2, 4) ∷ (1, 6) ∷ []) ∷ [])  -- in another order
    ∷ (copy 1 true ((1, 9) ∷ []) ∷ copy 1 true ((1, 9) ∷ (2, 2) ∷ []) ∷ [])  -- lacking counts as 1
    ∷ (copy 1 true ((1, 9) ∷ []) ∷ copy 1 true ((1, 9) ∷ (2, 1) ∷ []) ∷ [])  -- and 1 is at least 1
    ∷ (copy 1 true ((1, 5) ∷ (2, 4) ∷ []) ∷ copy 1 true ((1, 4) ∷ (2, 5) ∷ []) ∷ [])  -- each below the other
    ∷ (copy 1 true ((1, 5) ∷ (2, 4) ∷ []) ∷ copy 1 true ((1, 4) ∷ (2, 5) ∷ []) ∷ copy 1 true ((1, 5) ∷ (2, 5) ∷ []) ∷ [])  -- a third above both
    ∷ (copy 2 true ((1, 5) ∷ []) ∷ copy 7 false ((1, 6) ∷ []) ∷ [])  -- an unchecked higher epoch
    ∷ (copy 1 true ((1, 9) ∷ []) ∷ copy 2 true ((1, 5) ∷ []) ∷ copy 2 false ((1, 7) ∷ []) ∷ [])  -- a lower epoch doesn't stop one, nor does an unchecked copy
    ∷ (copy 1 true ((1, 5) ∷ (1, 8) ∷ []) ∷ copy 1 true ((1, 7) ∷ []) ∷ [])  -- of two sessions with one key the larger number
    ∷ [])
    ≡ 0 ∷ 1 ∷ 1 ∷ 1 ∷ 1 ∷ 0 ∷ 1 ∷ 1 ∷ 0 ∷ 2 ∷ 2 ∷ 0 ∷ 1 ∷ 0 ∷ []
unfolding chosen
table = refl
