-- A call that is lent the words of a place. Assumes nothing.
use Rattle.std.specs.Prelude.{◌≡◌, ℕ, List, length}
use Rattle.model_standby.specs.Store.{Stored, on_stored}
use Rattle.store_place.specs.Place.{place_in}
use Rattle.store_areas.specs.declared.Shape.{Shape}
use Rattle.store_areas.specs.Areas.{place_words}

-- it may be made of the words of any place
abbrev pub TakesWords : (List ℕ → Type 0) → Shape → Type 0
TakesWords P s = (x : List ℕ) → length x ≡ place_words s → P x

-- and it changes what is stored there, as f does
abbrev pub DoesWords : (List ℕ → List ℕ → Type 0) → Shape → (Stored → Stored) → Type 0
DoesWords P s f = (x x' b : List ℕ) → length x ≡ place_words s → P x x' → place_in s.bytes s.messages x' b ≡ on_stored f (place_in s.bytes s.messages x b)
