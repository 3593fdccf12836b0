-- The store's two areas: the rules that they keep, and the list of places that they hold.
-- Words: 0 how many places are in use, 1 how many commits are pending, 2 to 65 the pending commits (place × 2^32 + handle);
-- from 66 on the words of place 0, of place 1, and so on. Bytes: those of place 0, of place 1, and so on. Assumes nothing.
use Rattle.std.specs.Prelude.{◌≡◌, ℕ, zero, suc, ◌+◌, ◌-◌, ◌*◌, ◌≤◌, ◌<◌, Bool, cond, ◌&&◌, List, [], ◌∷◌, length, take, drop, get_or, set, leb, ltb, Result}
use Rattle.base_refusals.specs.declared.Refusal as declared
use Rattle.base_refusals.specs.Numbers.{answer_number}
use Rattle.model_frame.specs.Refusal
use Rattle.model_standby.specs.Store.{Stored, Place, on_place}
use Rattle.store_place.specs.PlaceByte
use Rattle.store_place.specs.PlaceWord
use Rattle.store_place.specs.Only.{Only}
use Rattle.store_place.specs.Place.{place_in}
use Rattle.store_areas.specs.StoreWord
use Rattle.store_areas.specs.declared.Shape.{Shape}

-- the words and the bytes of a place
abbrev pub place_words : Shape → ℕ
place_words s = PlaceWord.entries + 2 * s.messages

abbrev pub place_bytes : Shape → ℕ
place_bytes s = PlaceByte.ring + s.bytes

-- where those of place i begin
abbrev pub words_at : Shape → ℕ → ℕ
words_at s i = StoreWord.places + i * place_words s

abbrev pub bytes_at : Shape → ℕ → ℕ
bytes_at s i = i * place_bytes s

-- how many places are in use
abbrev pub used_of : List ℕ → ℕ
used_of w = get_or w StoreWord.used 0

-- where the word stands that says whether the session at place i is durable
abbrev pub durable_at : Shape → ℕ → ℕ
durable_at s i = words_at s i + PlaceWord.durable

-- where its words begin and end, and its bytes
pub record SpotIs (s : Shape) (i wa we ba be : ℕ) : Type 0 where
  pub words_from : wa ≡ words_at s i
  pub words_to : we ≡ words_at s i + place_words s
  pub bytes_from : ba ≡ bytes_at s i
  pub bytes_to : be ≡ bytes_at s i + place_bytes s

-- ---- the rules: 25 where they are broken

-- the limits of C and M, and the lengths
unfoldable pub roomy : Shape → List ℕ → List ℕ → Bool
roomy s w b =
    leb s.bytes 33554432 && (leb s.messages 65536
    && (leb (StoreWord.places + s.places * place_words s) (length w) && leb (s.places * place_bytes s) (length b)))

-- and no more places in use than there are, no more than 64 commits pending
unfoldable pub allowed : Shape → List ℕ → List ℕ → Bool
allowed s w b = roomy s w b && (leb (used_of w) s.places && leb (get_or w StoreWord.pending 0) 64)

-- the same as facts
pub record Room (s : Shape) (w b : List ℕ) : Type 0 where
  pub bytes_limit : s.bytes ≤ 33554432
  pub messages_limit : s.messages ≤ 65536
  pub words_long : StoreWord.places + s.places * place_words s ≤ length w
  pub bytes_long : s.places * place_bytes s ≤ length b

pub record Rules (s : Shape) (w b : List ℕ) : Type 0 where
  pub room : Room s w b
  pub used : used_of w ≤ s.places
  pub pending : get_or w StoreWord.pending 0 ≤ 64

-- place i is in use in areas that keep the rules
abbrev pub in_use : Shape → List ℕ → List ℕ → ℕ → Bool
in_use s w b i = allowed s w b && ltb i (used_of w)

-- the same as facts
pub record InUse (s : Shape) (w b : List ℕ) (i : ℕ) : Type 0 where
  pub rules : Rules s w b
  pub at : i < used_of w

-- where a place in use stands
pub record SpotIn (s : Shape) (i : ℕ) (w b : List ℕ) (wa we ba be : ℕ) : Type 0 where
  pub at : SpotIs s i wa we ba be
  pub words_order : wa ≤ we
  pub bytes_order : ba ≤ be
  pub words_end : we ≤ length w
  pub bytes_end : be ≤ length b
  pub words_part : length (take (we - wa) (drop wa w)) ≡ place_words s
  pub bytes_part : length (take (be - ba) (drop ba b)) ≡ place_bytes s
  pub messages_few : s.messages ≤ 65536

-- ---- what the areas hold

-- n elements from index a on
abbrev pub slice : ℕ → ℕ → List ℕ → List ℕ
slice a n l = take n (drop a l)

unfoldable pub place_at : Shape → List ℕ → List ℕ → ℕ → Place
place_at s w b i = place_in s.bytes s.messages (slice (words_at s i) (place_words s) w) (slice (bytes_at s i) (place_bytes s) b)

-- f k, f (k + 1) and so on, n of them
abbrev pub count_up : {A : Type 0} → (ℕ → A) → ℕ → ℕ → List A
count_up f k zero = []
count_up f k (suc n) = f k ∷ count_up f (suc k) n

unfoldable pub places_of : Shape → List ℕ → List ℕ → List Place
places_of s w b = count_up (place_at s w b) 0 (used_of w)

-- a text, as len bytes of b from `at` on, which lie in b
pub record TextAt (b text : List ℕ) (at len : ℕ) : Type 0 where
  pub is : take len (drop at b) ≡ text
  pub inside : at + len ≤ length b

-- ---- what an operation leaves

-- what is stored at place i is changed, and nothing outside that place
pub record Changed (s : Shape) (i : ℕ) (f : Stored → Stored) (w w' b b' : List ℕ) : Type 0 where
  pub places : places_of s w' b' ≡ on_place i f (places_of s w b)
  pub words : Only (words_at s i) (words_at s i + place_words s) w w'
  pub bytes : Only (bytes_at s i) (bytes_at s i + place_bytes s) b b'

-- making: 25 where the areas are too short, which leaves all as it was; else no place is in use, no commit is pending, and the other words are as they were
pub record Making (s : Shape) (w w' b : List ℕ) (r : Result (Unit {0}) declared.Refusal) : Type 0 where
  pub answer : answer_number r ≡ cond (roomy s w b) 0 Refusal.rules_broken
  pub words : w' ≡ cond (roomy s w b) (set (set w StoreWord.used 0) StoreWord.pending 0) w
