-- Promotion, place by place. Assumes nothing.
use mathlib.Core.Path.{◌≡◌, refl, sym, ap, ◌∙◌}
use mathlib.Core.List.{List, [], ◌∷◌}
use Prim.Native.Nat.{ℕ, zero, suc, ◌+◌, ◌≤◌, ◌<◌}
use native.Mathlib.Omega.{arith}
use native.Mathlib.Numerals.{add-one}
use lib.ListN.{length, get_or}
use Rattle.model_standby.specs.Store.{Stored, Place, on_stored, on_place, on_places, taken_over}
use Rattle.store_place.specs.Only.{Only}
use Rattle.store_place.proofs.Fields.{only_none, only_then, only_wider}
use Rattle.store_areas.specs.declared.Shape.{Shape}
use Rattle.store_areas.specs.Areas.{place_words, place_bytes, words_at, bytes_at, Rules, places_of, Changed}
use Rattle.store_areas.proofs.Lists.{inside}
use Rattle.store_areas.proofs.Lifting.{count_kept, rules_kept, places_length}
use Rattle.store_sessions.specs.Answers.{TakenOver}

-- f on the first i places
abbrev pub on_first : ℕ → (Stored → Stored) → List Place → List Place
on_first zero f ps = ps
on_first (suc i) f [] = []
on_first (suc i) f (x ∷ ps) = on_stored f x ∷ on_first i f ps

first_next : (i : ℕ) (f : Stored → Stored) (ps : List Place) → on_place i f (on_first i f ps) ≡ on_first (suc i) f ps
first_next zero f [] = refl
first_next zero f (x ∷ ps) = refl
first_next (suc i) f [] = refl
first_next (suc i) f (x ∷ ps) = ap (λ (t : List Place). on_stored f x ∷ t) (first_next i f ps)

first_all : (i : ℕ) (f : Stored → Stored) (ps : List Place) → length ps ≤ i → on_first i f ps ≡ on_places f ps
first_all zero f [] h = refl
first_all zero f (x ∷ ps) h = absurd (omega arith)
first_all (suc i) f [] h = refl
first_all (suc i) f (x ∷ ps) h = ap (λ (t : List Place). on_stored f x ∷ t) (first_all i f ps (omega arith))

module _ (s : Shape) (lag : ℕ) (w₀ b₀ : List ℕ) where
  pub record Promoting (w b : List ℕ) (i : ℕ) : Type 0 where
    pub rules : Rules s w b
    pub count : get_or w 0 0 ≡ get_or w₀ 0 0
    pub upto : i ≤ get_or w₀ 0 0
    pub places : places_of s w b ≡ on_first i (taken_over lag) (places_of s w₀ b₀)
    pub words : Only 66 (words_at s (get_or w₀ 0 0)) w₀ w
    pub bytes : Only 0 (bytes_at s (get_or w₀ 0 0)) b₀ b

  pub promoting_starts : Rules s w₀ b₀ → Promoting w₀ b₀ 0
  promoting_starts r = record { rules = r; count = refl; upto = omega arith; places = refl; words = only_none 66 (words_at s (get_or w₀ 0 0)) w₀; bytes = only_none 0 (bytes_at s (get_or w₀ 0 0)) b₀ }

  pub promoting_goes : (w w' b b' : List ℕ) (i : ℕ) → Promoting w b i → i < get_or w₀ 0 0 → Changed s i (taken_over lag) w w' b b' → Promoting w' b' (i + 1)
  promoting_goes w w' b b' i p h c =
      let n : ℕ = get_or w₀ 0 0 in
      record {
        rules = rules_kept s i (taken_over lag) w w' b b' c p.rules;
        count = count_kept s i w w' b b' c.words c.bytes ∙ p.count;
        upto = omega arith;
        places = c.places ∙ ap (on_place i (taken_over lag)) p.places ∙ first_next i (taken_over lag) (places_of s w₀ b₀) ∙ ap (λ (j : ℕ). on_first j (taken_over lag) (places_of s w₀ b₀)) (sym (add-one i));
        words = only_then 66 (words_at s n) w₀ w w' p.words (only_wider (words_at s i) (words_at s i + place_words s) 66 (words_at s n) w w' c.words (omega arith) (omega (arith, inside (place_words s) i n h)));
        bytes = only_then 0 (bytes_at s n) b₀ b b' p.bytes (only_wider (bytes_at s i) (bytes_at s i + place_bytes s) 0 (bytes_at s n) b b' c.bytes (omega arith) (omega (arith, inside (place_bytes s) i n h)));
      }

  pub promoting_ends : (w b : List ℕ) (i : ℕ) → Promoting w b i → get_or w₀ 0 0 ≤ i → TakenOver s lag w₀ w b₀ b
  promoting_ends w b i p h = record {
    places = p.places ∙ first_all i (taken_over lag) (places_of s w₀ b₀) (omega (arith, places_length s w₀ b₀));
    words = p.words;
    bytes = p.bytes;
  }
