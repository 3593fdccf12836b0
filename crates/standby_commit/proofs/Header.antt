-- The words before the first place's: what is written there changes no place. Assumes nothing.
use mathlib.Core.Path.{◌≡◌, sym, ap, ◌∙◌}
use mathlib.Core.List.{List, map}
use Prim.Native.Nat.{ℕ, ◌+◌, ◌<◌, ◌≤◌}
use native.Mathlib.Omega.{arith}
use mathlib.Core.Logic.{inr}
use lib.ListN.{length, get_or, set, take, drop, length-set}
use lib.Seq.{take-set-le, take-set-lt, drop-set-lt, take-take, get_or-take, get_or-set_other}
use Rattle.base_laws.proofs.Lists.{drop_take}
use Rattle.store_place.specs.Only.{Only}
use Rattle.store_place.specs.Place.{place_in}
use Rattle.store_areas.specs.declared.Shape.{Shape}
use Rattle.store_areas.specs.Areas.{place_words, words_at, bytes_at, place_bytes, slice, place_at, count_up, places_of}
use Rattle.store_areas.proofs.Lists.{count_same, part_kept}
use Rattle.standby_pending.specs.Pending.{count_of, commit_of, pending_of}

only_set : (w : List ℕ) (j v : ℕ) → Only j (j + 1) w (set w j v)
only_set w j v = record { same_length = length-set w j v; front = take-set-le j w j v (omega arith); back = drop-set-lt (j + 1) w j v (omega arith) }

-- the same element set in front of the part that may have changed
pub only_both : (a n j v : ℕ) (w w' : List ℕ) → j < a → Only a (a + n) w w' → Only a (a + n) (set w j v) (set w' j v)
only_both a n j v w w' less o = record {
  same_length = length-set w' j v ∙ o.same_length ∙ sym (length-set w j v);
  front = take-set-lt a w' j v less ∙ ap (λ (l : List ℕ). set l j v) o.front ∙ sym (take-set-lt a w j v less);
  back = drop-set-lt (a + n) w' j v (omega arith) ∙ o.back ∙ sym (drop-set-lt (a + n) w j v (omega arith));
}

-- a word of the header but the first
module _ (s : Shape) (w b : List ℕ) (j v : ℕ) (low : 1 ≤ j) (high : j < 66) where
  place_kept : (i : ℕ) → place_at s (set w j v) b i ≡ place_at s w b i
  unfolding place_at
  place_kept i = ap (λ (l : List ℕ). place_in s.bytes s.messages l (slice (bytes_at s i) (place_bytes s) b)) (part_kept j (j + 1) (words_at s i) (place_words s) w (set w j v) (only_set w j v) (inr (omega arith)))

  pub count_kept : get_or (set w j v) 0 0 ≡ get_or w 0 0
  count_kept = get_or-set_other w j 0 v 0 (λ e. no e)
    where
      no : 0 ≡ j → ⊥
      no e = omega (arith, e)

  pub places_kept : places_of s (set w j v) b ≡ places_of s w b
  unfolding places_of
  places_kept =
      ap (λ (n : ℕ). count_up (place_at s (set w j v) b) 0 n) count_kept
      ∙ count_same (place_at s w b) (place_at s (set w j v) b) 0 (get_or w 0 0) (λ i _ _. place_kept i)

-- the pending commits stand in the first 66 words
pub pending_kept : (w w' : List ℕ) → 66 ≤ length w → count_of w ≤ 64 → take 66 w' ≡ take 66 w → pending_of w' ≡ pending_of w
unfolding pending_of
pending_kept w w' long few e =
    let one : 1 < 66 = omega arith in
    let count : count_of w' ≡ count_of w = sym (get_or-take 66 w' 1 0 one) ∙ ap (λ (l : List ℕ). get_or l 1 0) e ∙ get_or-take 66 w 1 0 one in
    ap (λ (n : ℕ). map commit_of (take n (drop 2 w'))) count ∙ ap (map commit_of) (cut w' ∙ ap (λ (l : List ℕ). take (count_of w) (drop 2 l)) e ∙ sym (cut w))
  where
    cut : (l : List ℕ) → take (count_of w) (drop 2 l) ≡ take (count_of w) (drop 2 (take 66 l))
    cut l = sym (take-take (count_of w) 64 (drop 2 l) few) ∙ ap (take (count_of w)) (sym (drop_take 2 64 l))
