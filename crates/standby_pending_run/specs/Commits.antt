-- What running the pending commits leaves of a store. Assumes nothing.
use Rattle.std.specs.Prelude.{◌≡◌, Bool, cond, List, [], ◌∷◌, ℕ, ltb, length, set}
use Rattle.model_standby.specs.Store.{mark_all}
use Rattle.store_areas.specs.StoreWord
use Rattle.store_areas.specs.declared.Shape.{Shape}
use Rattle.store_areas.specs.Areas.{durable_at, Rules, places_of, used_of}
use Rattle.standby_pending.specs.Pending.{pending_of}

-- one session marked, if its place is one of the first `used`
abbrev pub marked_at : Shape → ℕ → ℕ → List ℕ → List ℕ
marked_at s used i w = cond (ltb i used) (set w (durable_at s i) 1) w

-- the sessions of the commits (handle, place) marked, one after the other
abbrev pub marked_words : Shape → ℕ → List (ℕ × ℕ) → List ℕ → List ℕ
marked_words s used [] w = w
marked_words s used (c ∷ cs) w = marked_words s used cs (marked_at s used c.1 w)

-- the words after the pending commits ran: no other word changes
unfoldable pub ran_words : Shape → List ℕ → List ℕ
ran_words s w = set (marked_words s (used_of w) (pending_of w) w) StoreWord.pending 0

-- all pending commits ran
pub record Ran (s : Shape) (b w w' : List ℕ) : Type 0 where
  pub words : w' ≡ ran_words s w
  pub places : places_of s w' b ≡ mark_all (pending_of w) (places_of s w b)
  pub pending : pending_of w' ≡ []
  pub rules : Rules s w' b
  pub used : used_of w' ≡ used_of w
  pub same_length : length w' ≡ length w

-- they ran if they were due
pub record RanIf (due : Bool) (s : Shape) (b w w' : List ℕ) : Type 0 where
  pub words : w' ≡ cond due (ran_words s w) w
  pub places : places_of s w' b ≡ cond due (mark_all (pending_of w) (places_of s w b)) (places_of s w b)
  pub pending : pending_of w' ≡ cond due [] (pending_of w)
  pub rules : Rules s w' b
  pub used : used_of w' ≡ used_of w
  pub same_length : length w' ≡ length w
