-- THE ABSTRACTION IS TOTAL AND ONTO: whatever areas hold is a list of places with holdable sessions, and every holdable session is
-- held at any place in use by areas that differ only there. Assumes nothing.
use mathlib.Core.Path.{◌≡◌, refl, sym, ◌∙◌}
use mathlib.Core.List.{List, ◌++◌}
use Prim.Native.Nat.{ℕ, zero, suc, ◌+◌, ◌-◌, ◌^◌, ◌<◌, min}
use native.Mathlib.Omega.{arith}
use lib.ListN.{length, take, drop, get_or, length-take}
use borrow.Rule.Slice.PartMut.{mid_of, post_of, put_mid}
use Rattle.model_frame.specs.Parse.{Each}
use Rattle.model_session.specs.Session.{Holdable}
use Rattle.model_standby.specs.Store.{Stored, Place}
use Rattle.store_log.proofs.Lawful.{Small, small_take, small_drop, small_append}
use Rattle.store_place.specs.Place.{field, stored_key, place_in}
use Rattle.store_place.proofs.Holding.{holdable, Kept, Short, ShortKey, kept}
use Rattle.store_areas.specs.declared.Shape.{Shape}
use Rattle.store_areas.specs.Areas.{place_words, place_bytes, words_at, bytes_at, Rules, slice, place_at, count_up, places_of, Changed}
use Rattle.store_areas.proofs.Lifting.{Within, within, part_length, lift_both, rules_kept}

-- ---- total

pub holdable_at : (s : Shape) (w b : List ℕ) (i : ℕ) → Small (2 ^ 64) w → Small 256 b → Holdable s.bytes s.messages (place_at s w b i).stored.session
unfolding place_at place_in
holdable_at s w b i sw sb =
    holdable s.bytes s.messages (slice (words_at s i) (place_words s) w) (slice (bytes_at s i) (place_bytes s) b)
    (small_take (place_words s) (drop (words_at s i) w) (omega arith) (small_drop (words_at s i) w sw))
    (small_take (place_bytes s) (drop (bytes_at s i) b) (omega arith) (small_drop (bytes_at s i) b sb))

each_at : (P : Place → Type 0) (f : ℕ → Place) (k n : ℕ) → ((i : ℕ) → P (f i)) → Each P (count_up f k n)
each_at P f k zero h = tt
each_at P f k (suc n) h = (h k, each_at P f (suc k) n h)

pub all_holdable : (s : Shape) (w b : List ℕ) → Small (2 ^ 64) w → Small 256 b → Each (λ p. Holdable s.bytes s.messages p.stored.session) (places_of s w b)
unfolding places_of
all_holdable s w b sw sb = each_at (λ p. Holdable s.bytes s.messages p.stored.session) (place_at s w b) 0 (get_or w 0 0) (λ i. holdable_at s w b i sw sb)

-- ---- onto

short_field : (b : List ℕ) (at n : ℕ) → Small 256 b → Short 32 (field b at 32 n)
unfolding field
short_field b at n h = record { most = omega (arith, length-take (min n 32) (drop at b)); small = small_take (min n 32) (drop at b) (omega arith) (small_drop at b h) }

short_key : (w b : List ℕ) → Small 256 b → ShortKey (stored_key w b)
unfolding stored_key
short_key w b h = record {
  begin_short = short_field b 0 (get_or w 7 0) h;
  sender_short = short_field b 32 (get_or w 8 0) h;
  target_short = short_field b 64 (get_or w 9 0) h;
  suffix_short = short_field b 96 (get_or w 10 0) h;
}

-- areas that hold this at place i, and are else as w and b
pub record Holds (s : Shape) (i : ℕ) (x : Stored) (w b : List ℕ) : Type 0 where
  pub words : List ℕ
  pub bytes : List ℕ
  pub words_fit : Small (2 ^ 64) words
  pub bytes_fit : Small 256 bytes
  pub rules : Rules s words bytes
  pub is : Changed s i (λ _. x) w words b bytes

put_small : (n a k : ℕ) (l ys : List ℕ) → 0 < n → Small n l → Small n ys → Small n (put_mid a k l ys)
put_small n a k l ys z h g = small_append (take a l) (ys ++ post_of a k l) (small_take a l z h) (small_append ys (post_of a k l) g (small_drop k (drop a l) (small_drop a l h)))

pub held_at : (s : Shape) (i : ℕ) (x : Stored) (w b : List ℕ) → Rules s w b → i < get_or w 0 0 → Small (2 ^ 64) w → Small 256 b → Holdable s.bytes s.messages x.session → Holds s i x w b
unfolding place_in
held_at s i x w b r h sw sb hold =
    let v : Within s i w b = within s i w b r h in
    let wa : ℕ = words_at s i in
    let ba : ℕ = bytes_at s i in
    let mw : List ℕ = mid_of wa (wa + place_words s - wa) w in
    let mb : List ℕ = mid_of ba (ba + place_bytes s - ba) b in
    let small : Small 256 mb = small_take (ba + place_bytes s - ba) (drop ba b) (omega arith) (small_drop ba b sb) in
    let k : Kept s.bytes s.messages (record { key = stored_key mw mb; stored = x }) = kept s.bytes s.messages (omega (arith, v.bytes_few)) (omega (arith, v.messages_few)) (stored_key mw mb) x.session x.durable (short_key mw mb small) hold in
    let lw : length k.words ≡ length mw = k.words_long ∙ sym (part_length wa (place_words s) w mw v.words_in refl) in
    let lb : length k.bytes ≡ length mb = k.bytes_long ∙ sym (part_length ba (place_bytes s) b mb v.bytes_in refl) in
    let c : Changed s i (λ _. x) w (put_mid wa (wa + place_words s - wa) w k.words) b (put_mid ba (ba + place_bytes s - ba) b k.bytes) = lift_both s i w b k.words k.bytes r h (λ _. x) lw lb k.is in
    record {
      words = put_mid wa (wa + place_words s - wa) w k.words;
      bytes = put_mid ba (ba + place_bytes s - ba) b k.bytes;
      words_fit = put_small (2 ^ 64) wa (wa + place_words s - wa) w k.words (omega arith) sw k.words_fit;
      bytes_fit = put_small 256 ba (ba + place_bytes s - ba) b k.bytes (omega arith) sb k.bytes_fit;
      rules = rules_kept s i (λ _. x) w (put_mid wa (wa + place_words s - wa) w k.words) b (put_mid ba (ba + place_bytes s - ba) b k.bytes) c r;
      is = c;
    }
