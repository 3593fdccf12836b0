-- A new session at the next free place. Assumes nothing.
use mathlib.Core.Path.{◌≡◌, ap, ◌∙◌}
use mathlib.Core.Logic.{inr}
use mathlib.Core.List.{List, [], ◌∷◌, ◌++◌}
use Prim.Native.Nat.{ℕ, suc, ◌+◌, ◌-◌, ◌<◌}
use native.Mathlib.Omega.{arith}
use native.Mathlib.Numerals.{add-one}
use lib.ListN.{length, get_or, set, length-set}
use lib.Seq.{get_or-set_same, get_or-set_other}
use borrow.Rule.Slice.PartMut.{mid_of, put_mid}
use Rattle.model_frame.specs.Frame.{Key}
use Rattle.model_standby.specs.Store.{new_place}
use Rattle.store_place.specs.Place.{place_in}
use Rattle.store_place.proofs.Fields.{only_set}
use Rattle.store_areas.specs.declared.Shape.{Shape}
use Rattle.store_areas.specs.Areas.{place_words, place_bytes, words_at, bytes_at, SpotIn, Rules, slice, place_at, count_up, places_of}
use Rattle.store_areas.proofs.Lists.{count_same, count_snoc, part_kept}
use Rattle.store_areas.proofs.Lifting.{Put, spot_put, count_kept, other_place, rules_kept_by}
use Rattle.store_sessions.specs.Answers.{Opened}

module _ (s : Shape) (w b : List ℕ) (r : Rules s w b) (h : get_or w 0 0 < s.places) where
  abbrev n : ℕ
  n = get_or w 0 0

  abbrev w1 : List ℕ
  w1 = set w 0 (n + 1)

  pub counted : get_or w1 0 0 ≡ n + 1
  counted = get_or-set_same w 0 (n + 1) 0 (omega (arith, r.room.words_long))

  pub raised : Rules s w1 b
  raised = record {
    room = record {
      bytes_limit = r.room.bytes_limit;
      messages_limit = r.room.messages_limit;
      words_long = omega (arith, r.room.words_long, length-set w 0 (n + 1));
      bytes_long = r.room.bytes_long;
    };
    used = omega (arith, counted);
    pending = omega (arith, r.pending, get_or-set_other w 0 1 (n + 1) 0 (λ e. omega arith));
  }

  pub in_use : n < get_or w1 0 0
  in_use = omega (arith, counted)

  same_place : (j : ℕ) → place_at s w1 b j ≡ place_at s w b j
  unfolding place_at
  same_place j = ap (λ (x : List ℕ). place_in s.bytes s.messages x (slice (bytes_at s j) (place_bytes s) b)) (part_kept 0 1 (words_at s j) (place_words s) w w1 (only_set 0 (n + 1) w) (inr (omega arith)))

  pub opened : (k : Key) (wa we ba be : ℕ) (x y : List ℕ) → SpotIn s n w1 b wa we ba be → length x ≡ length (mid_of wa (we - wa) w1) → length y ≡ length (mid_of ba (be - ba) b)
      → place_in s.bytes s.messages x y ≡ new_place k → Opened s k w (put_mid wa (we - wa) w1 x) b (put_mid ba (be - ba) b y)
  unfolding places_of
  opened k wa we ba be x y at sx sy e =
      let v : List ℕ = put_mid wa (we - wa) w1 x in
      let c : List ℕ = put_mid ba (be - ba) b y in
      let p : Put s n w1 v b c (place_in s.bytes s.messages x y) = spot_put s n wa we ba be at.at w1 b raised in_use x y sx sy in
      let count : get_or v 0 0 ≡ suc n = count_kept s n w1 v b c p.words p.bytes ∙ counted ∙ add-one n in
      let z : n ≡ 0 + n = omega arith in
      let same : count_up (place_at s v c) 0 n ≡ count_up (place_at s w b) 0 n =
      count_same (place_at s w b) (place_at s v c) 0 n (λ j _ l. other_place s n w1 v b c p.words p.bytes j (λ q. omega arith) ∙ same_place j) in
      record {
        places = ap (count_up (place_at s v c) 0) count ∙ count_snoc (place_at s v c) 0 n n z ∙ (λ i. same i ++ ((p.own ∙ e) i ∷ []));
        words = p.words;
        bytes = p.bytes;
      }

-- the rules hold then too
pub opened_rules : (s : Shape) (k : Key) (w w' b b' : List ℕ) → Rules s w b → get_or w 0 0 < s.places → Opened s k w w' b b' → Rules s w' b'
opened_rules s k w w' b b' r h o = rules_kept_by s (get_or w 0 0) (set w 0 (get_or w 0 0 + 1)) w' b b' o.words o.bytes (raised s w b r h)
