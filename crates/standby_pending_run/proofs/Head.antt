-- The words before the first place, but for the number of places in use, say nothing of the places. Assumes nothing.
use mathlib.Core.Path.{◌≡◌, sym, ap, ◌∙◌}
use mathlib.Core.List.{List}
use Prim.Native.Nat.{ℕ, ◌≤◌, ◌<◌}
use native.Mathlib.Omega.{arith}
use lib.ListN.{length, take, get_or, set}
use lib.Seq.{get_or-take, get_or-set_same}
use Rattle.store_place.specs.Only.{Only}
use Rattle.store_place.specs.Place.{place_in}
use Rattle.store_place.proofs.Fields.{only_after, only_set, only_wider}
use Rattle.store_areas.specs.declared.Shape.{Shape}
use Rattle.store_areas.specs.Areas.{place_words, place_bytes, words_at, bytes_at, Rules, slice, place_at, count_up, places_of}
use Rattle.store_areas.proofs.Lists.{count_same, word_kept}

-- a word before the first place, where these are the same
pub word_same : (k : ℕ) (w w' : List ℕ) → take 66 w' ≡ take 66 w → k < 66 → get_or w' k 0 ≡ get_or w k 0
word_same k w w' e h = sym (get_or-take 66 w' k 0 h) ∙ ap (λ (l : List ℕ). get_or l k 0) e ∙ get_or-take 66 w k 0 h

-- the rules speak of these words and of the lengths only
pub rules_front : (s : Shape) (w w' b b' : List ℕ) → take 66 w' ≡ take 66 w → length w' ≡ length w → length b' ≡ length b → Rules s w b → Rules s w' b'
rules_front s w w' b b' e lw lb r = record {
  room = record {
    bytes_limit = r.room.bytes_limit;
    messages_limit = r.room.messages_limit;
    words_long = omega (arith, r.room.words_long);
    bytes_long = omega (arith, r.room.bytes_long);
  };
  used = omega (arith, r.used, word_same 0 w w' e (omega arith));
  pending = omega (arith, r.pending, word_same 1 w w' e (omega arith));
}

-- what only changes words 1 to 65 changes no place
module _ (s : Shape) (w w' b : List ℕ) (o : Only 1 66 w w') where
  pub used_kept : get_or w' 0 0 ≡ get_or w 0 0
  used_kept = word_kept 1 66 0 w w' o (omega arith)

  place_kept : (j : ℕ) → place_at s w' b j ≡ place_at s w b j
  unfolding place_at
  place_kept j = ap (λ (l : List ℕ). place_in s.bytes s.messages (take (place_words s) l) (slice (bytes_at s j) (place_bytes s) b)) (only_after 1 66 (words_at s j) w w' o (omega arith))

  pub places_kept : places_of s w' b ≡ places_of s w b
  unfolding places_of
  places_kept = ap (count_up (place_at s w' b) 0) used_kept ∙ count_same (place_at s w b) (place_at s w' b) 0 (get_or w 0 0) (λ j l m. place_kept j)

  pub rules_stay : Rules s w b → get_or w' 1 0 ≤ 64 → Rules s w' b
  rules_stay r h = record {
    room = record {
      bytes_limit = r.room.bytes_limit;
      messages_limit = r.room.messages_limit;
      words_long = omega (arith, r.room.words_long, o.same_length);
      bytes_long = r.room.bytes_long;
    };
    used = omega (arith, r.used, used_kept);
    pending = h;
  }

-- ---- no commit any more (`standby_pending::clear`)

pub clear_only : (w : List ℕ) → Only 1 66 w (set w 1 0)
clear_only w = only_wider 1 2 1 66 w (set w 1 0) (only_set 1 0 w) (omega arith) (omega arith)

pub clear_rules : (s : Shape) (w b : List ℕ) → Rules s w b → Rules s (set w 1 0) b
clear_rules s w b r =
    let inside : 1 < length w = omega (arith, r.room.words_long) in
    let count : get_or (set w 1 0) 1 0 ≡ 0 = get_or-set_same w 1 0 0 inside in
    rules_stay s w (set w 1 0) b (clear_only w) r (omega arith)
