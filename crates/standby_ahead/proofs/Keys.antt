-- The key of a place that is lent. Assumes nothing.
use mathlib.Core.Path.{◌≡◌, ap, ◌∙◌}
use mathlib.Core.Bool.{Bool}
use mathlib.Core.List.{List}
use Prim.Native.Nat.{ℕ}
use Rattle.model_frame.specs.Frame.{Key}
use Rattle.model_standby.specs.Store.{Place, same_key}
use Rattle.store_place.specs.Place.{stored_key, place_in}

module _ (C M : ℕ) (x y : List ℕ) (p : Place) (is : place_in C M x y ≡ p) where
  pub key_there : {k : Key} → k ≡ stored_key x y → k ≡ p.key
  unfolding place_in
  key_there e = e ∙ ap (λ (q : Place). q.key) is

  pub key_same : {t : Bool} (k : Key) → t ≡ same_key k (stored_key x y) → t ≡ same_key k p.key
  unfolding place_in
  key_same k e = e ∙ ap (λ (q : Place). same_key k q.key) is
