-- Marking the session at a place as durable. Assumes nothing.
use mathlib.Core.Path.{◌≡◌, ap, ◌∙◌}
use mathlib.Core.List.{List}
use Prim.Native.Nat.{ℕ, ◌+◌, ◌*◌, ◌≤◌, ◌<◌}
use native.Mathlib.Omega.{arith}
use lib.ListN.{length, take, drop, get_or, set, length-drop}
use lib.Seq.{length-take-le, take-set-lt, drop-set-add}
use Rattle.model_standby.specs.Store.{on_stored, mark_durable}
use Rattle.store_place.specs.Place.{place_in}
use Rattle.store_place.proofs.Fields.{only_none, only_wider, only_set}
use Rattle.store_place.proofs.Changes as changes
use Rattle.store_areas.specs.declared.Shape.{Shape}
use Rattle.store_areas.specs.Areas.{place_words, place_bytes, words_at, bytes_at, durable_at, Rules, slice, place_at, Changed}
use Rattle.store_areas.proofs.Lists.{inside}
use Rattle.store_areas.proofs.Lifting.{within, changed_at}

-- its word lies within the words, where the code has the length of a place
pub mark_within : (s : Shape) (i width used : ℕ) (w : List ℕ) → width ≡ place_words s → 66 + s.places * place_words s ≤ length w → used ≤ s.places → i < used → 66 + i * width + 4 < length w
mark_within s i width used w e h k l =
    let same : i * width ≡ i * place_words s = ap (λ (n : ℕ). i * n) e in
    omega (arith, inside (place_words s) i s.places (omega arith), same)

module _ (s : Shape) (i : ℕ) (w b : List ℕ) (r : Rules s w b) (h : i < get_or w 0 0) where
  own_part : slice (words_at s i) (place_words s) (set w (durable_at s i) 1) ≡ set (slice (words_at s i) (place_words s) w) 4 1
  own_part = ap (take (place_words s)) (drop-set-add (words_at s i) w 4 1) ∙ take-set-lt (place_words s) (drop (words_at s i) w) 4 1 (omega arith)

  own_long : 14 ≤ length (slice (words_at s i) (place_words s) w)
  own_long =
      let room : place_words s ≤ length (drop (words_at s i) w) = omega (arith, (within s i w b r h).words_in, length-drop (words_at s i) w) in
      omega (arith, length-take-le (place_words s) (drop (words_at s i) w) room)

  own_place : place_at s (set w (durable_at s i) 1) b i ≡ on_stored mark_durable (place_at s w b i)
  unfolding place_at
  own_place =
      ap (λ (l : List ℕ). place_in s.bytes s.messages l (slice (bytes_at s i) (place_bytes s) b)) own_part
      ∙ changes.marked s.bytes s.messages (slice (bytes_at s i) (place_bytes s) b) (slice (words_at s i) (place_words s) w) own_long

  pub marked : Changed s i mark_durable w (set w (durable_at s i) 1) b b
  marked =
      changed_at s i w (set w (durable_at s i) 1) b b
      (only_wider (durable_at s i) (durable_at s i + 1) (words_at s i) (words_at s i + place_words s) w (set w (durable_at s i) 1) (only_set (durable_at s i) 1 w) (omega arith) (omega arith))
      (only_none (bytes_at s i) (bytes_at s i + place_bytes s) b) mark_durable h own_place
