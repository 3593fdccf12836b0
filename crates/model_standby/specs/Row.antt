-- The row of bound handles: places that are free, or taken by a handle with its value. The first place with a handle counts.
-- Assumes nothing.
use Rattle.std.specs.Prelude.{ℕ, List, [], ◌∷◌, Bool, true, false, cond, ◌||◌, eqb}
use Rattle.std.proofs.Math.Option.{Option, none, some}

abbrev pub is_some : {A : Type 0} → Option A → Bool
is_some none = false
is_some (some a) = true

abbrev pub Row : Type 0 → Type 0
Row A = List (Option (ℕ × A))

-- P holds of the value, where the place is taken
abbrev pub Used : {A : Type 0} → (A → Type 0) → Option (ℕ × A) → Type 0
Used P none = Unit {0}
Used P (some e) = P e.1

module _ {A : Type 0} where
  -- all places free
  abbrev pub freed : Row A → Row A
  freed [] = []
  freed (p ∷ t) = none ∷ freed t

  abbrev pub has_free : Row A → Bool
  has_free [] = false
  has_free (none ∷ t) = true
  has_free (some e ∷ t) = has_free t

  abbrev pub find : ℕ → Row A → Option A
  find h [] = none
  find h (none ∷ t) = find h t
  find h (some e ∷ t) = cond (eqb h e.0) (some e.1) (find h t)

  -- h, which has a place, gets the value v
  abbrev pub replace : ℕ → A → Row A → Row A
  replace h v [] = []
  replace h v (none ∷ t) = none ∷ replace h v t
  replace h v (some e ∷ t) = cond (eqb h e.0) (some (e.0, v) ∷ t) (some e ∷ replace h v t)

  -- the first free place is taken by h with v
  abbrev pub fill : ℕ → A → Row A → Row A
  fill h v [] = []
  fill h v (none ∷ t) = some (h, v) ∷ t
  fill h v (some e ∷ t) = some e ∷ fill h v t

  -- there is a place for h: its own or a free one
  abbrev pub has_room : ℕ → Row A → Bool
  has_room h t = is_some (find h t) || has_free t

  -- h gets the value v, at its own place or, if it has none, at the first free one
  unfoldable pub put : ℕ → A → Row A → Row A
  put h v t = cond (is_some (find h t)) (replace h v t) (fill h v t)
