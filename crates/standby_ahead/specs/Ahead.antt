-- What the functions over two stores answer. Assumes nothing.
use Rattle.std.specs.Prelude.{◌≡◌, ℕ, ◌<◌, Bool, false, ◌&&◌, List, get_or, leb}
use Rattle.model_frame.specs.Frame.{Key}
use Rattle.model_session.specs.Summary.{fnv, fnv_start}
use Rattle.model_standby.specs.Store.{Place, same_key}
use Rattle.store_areas.specs.declared.Shape.{Shape}
use Rattle.store_areas.specs.Areas.{place_at, used_of}

-- a place with this key and at least the number n
abbrev pub has_number : Key → ℕ → Place → Bool
has_number k n p = leb n p.stored.session.next_out && same_key k p.key

-- a fingerprint of a key: that keys with different ones differ is all that is asked of it
abbrev pub print_of : Key → ℕ
print_of k = fnv (fnv (fnv (fnv fnv_start k.begin) k.sender) k.target) k.suffix

-- those of the first 256 places in use
pub record Prints (s : Shape) (w b prints : List ℕ) : Type 0 where
  pub each : (i : ℕ) → i < used_of w → i < 256 → get_or prints i 0 ≡ print_of (place_at s w b i).key

-- a place whose fingerprint is kept, and is another one
abbrev pub Differs : List ℕ → ℕ → ℕ → Bool → Type 0
Differs prints i print t = t ≡ false → (i < 256) × (get_or prints i 0 ≡ print → ⊥)
