-- Fingerprints of keys. Assumes nothing.
use mathlib.Core.Path.{◌≡◌, refl, sym, ap, ◌∙◌}
use mathlib.Core.Bool.{Bool, true, false}
use mathlib.Core.List.{List}
use Prim.Native.Nat.{ℕ, ◌<◌}
use lib.ListN.{length, get_or}
use Rattle.model_frame.specs.Frame.{Key}
use Rattle.model_standby.specs.Store.{same_key}
use Rattle.model_standby.proofs.Places.{key_sound}
use Rattle.store_areas.specs.declared.Shape.{Shape}
use Rattle.store_areas.specs.Areas.{place_at}
use Rattle.standby_ahead.specs.Ahead.{has_number, print_of, Prints, Differs}
use Rattle.standby_ahead.proofs.Numbers.{another_key}

-- a place with another fingerprint has another key
pub other_print : (s : Shape) (w b prints : List ℕ) (k : Key) (n i print : ℕ) {t : Bool} → Prints s w b prints → i < get_or w 0 0 → print ≡ print_of k → Differs prints i print t → t ≡ false → t ≡ has_number k n (place_at s w b i)
other_print s w b prints k n i print {t} p less e d f = f ∙ another_key k n (place_at s w b i) (sym (go (same_key k (place_at s w b i).key) refl))
  where
    two : (i < 256) × (get_or prints i 0 ≡ print → ⊥)
    two = d f

    go : (u : Bool) → same_key k (place_at s w b i).key ≡ u → same_key k (place_at s w b i).key ≡ false
    go false q = q
    go true q = absurd (two.1 (p.each i less two.0 ∙ ap print_of (sym (key_sound k (place_at s w b i).key q)) ∙ sym e))

-- ---- the fingerprints of a store

module _ (s : Shape) (w b : List ℕ) where
  pub record Printing (out : List ℕ) (i : ℕ) : Type 0 where
    pub long : length out ≡ 256
    pub so : (j : ℕ) → j < i → get_or out j 0 ≡ print_of (place_at s w b j).key
