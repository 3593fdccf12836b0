-- What the functions over a store's sessions answer and leave. Assumes nothing.
use Rattle.std.specs.Prelude.{◌≡◌, ℕ, ◌+◌, ◌≤◌, cond, List, [], ◌∷◌, ◌++◌, length, take, drop, get_or, set, Option, Some, None, Result, Ok, Err}
use Rattle.base_refusals.specs.declared.Refusal as declared
use Rattle.base_refusals.specs.Numbers.{number_of}
use Rattle.model_frame.specs.Refusal
use Rattle.model_frame.specs.Frame.{Key}
use Rattle.model_frame.specs.Frame as model-frame
use Rattle.model_session.specs.Session.{Msg}
use Rattle.model_session.specs.Summary.{numbered_from, last_out, summary}
use Rattle.model_standby.specs.Store.{Place, place_of, is_stored, new_place, on_places, taken_over}
use Rattle.frame_reader.specs.Answers.{Lies}
use Rattle.frame_fields.specs.declared.Summary.{Summary}
use Rattle.frame_fields.specs.Answers.{flight_of, summary_of}
use Rattle.store_log.specs.Log.{msg}
use Rattle.store_place.specs.Only.{Only}
use Rattle.store_place.specs.PlaceByte
use Rattle.store_place.specs.PlaceWord
use Rattle.store_place.specs.Place.{next_out_of, stored_flight, stamp_of, marks_of, session_of, rest_in, PositionIn}
use Rattle.store_areas.specs.StoreWord
use Rattle.store_areas.specs.declared.Shape.{Shape}
use Rattle.store_areas.specs.Areas.{place_words, place_bytes, words_at, bytes_at, allowed, in_use, slice, place_at, places_of, used_of}

-- what a function answers: a value, or document 01's number of a refusal
pub data Answered (A : Type 0) : Type 0 where
  gives : A → Answered A
  refuses : ℕ → Answered A

-- ---- searching

-- the place of a key that is stored; of another there is none
abbrev pub stored_place : Key → List Place → Option ℕ
stored_place k ps = cond (is_stored k ps) (Some (place_of k ps)) None

abbrev pub sought_is : Result (Option ℕ) declared.Refusal → Answered (Option ℕ)
sought_is (Ok i) = gives i
sought_is (Err e) = refuses (number_of e)

unfoldable pub sought_in : Shape → List ℕ → List ℕ → Key → Answered (Option ℕ)
sought_in s w b k = cond (allowed s w b) (gives (stored_place k (places_of s w b))) (refuses Refusal.rules_broken)

-- ---- opening: the new session stands at the place that was the first free one; nothing else changes but the count
pub record Opened (s : Shape) (k : Key) (w w' b b' : List ℕ) : Type 0 where
  pub places : places_of s w' b' ≡ places_of s w b ++ (new_place k ∷ [])
  pub words : Only (words_at s (used_of w)) (words_at s (used_of w) + place_words s) (set w StoreWord.used (used_of w + 1)) w'
  pub bytes : Only (bytes_at s (used_of w)) (bytes_at s (used_of w) + place_bytes s) b b'

-- ---- promotion: only the places in use change
pub record TakenOver (s : Shape) (lag : ℕ) (w w' b b' : List ℕ) : Type 0 where
  pub places : places_of s w' b' ≡ on_places (taken_over lag) (places_of s w b)
  pub words : Only StoreWord.places (words_at s (used_of w)) w w'
  pub bytes : Only 0 (bytes_at s (used_of w)) b b'

-- ---- summaries

-- the two texts of a summary lie in the byte area, none of their bytes is cut off
pub record TextsIn (b : List ℕ) (m : Summary) : Type 0 where
  pub stamp : Lies b m.created_at
  pub marks : Lies b m.marks

-- a summary by the words and bytes of a place, whose bytes begin at `from` in the byte area
pub record SummaryAtPlace (C M from n : ℕ) (w b : List ℕ) (m : Summary) : Type 0 where
  pub out : m.next_outgoing ≡ next_out_of w
  pub inc : m.next_incoming ≡ get_or w PlaceWord.next_in 0
  pub flight : flight_of m.in_flight ≡ stored_flight w
  pub stamp : take m.created_at.len (drop PlaceByte.stamp b) ≡ stamp_of w b
  pub stamp_at : m.created_at.at ≡ from + PlaceByte.stamp
  pub stamp_len : m.created_at.len ≤ PlaceByte.stamp_size
  pub marks : take m.marks.len (drop PlaceByte.marks b) ≡ marks_of w b
  pub marks_at : m.marks.at ≡ from + PlaceByte.marks
  pub marks_len : m.marks.len ≤ PlaceByte.marks_size
  pub last : m.last_outgoing ≡ last_out (session_of C M w b) n

abbrev pub summarised_is : List ℕ → Result Summary declared.Refusal → Answered model-frame.Summary
summarised_is b (Ok m) = gives (summary_of b m)
summarised_is b (Err e) = refuses (number_of e)

abbrev pub SummarisedIn : List ℕ → Result Summary declared.Refusal → Type 0
SummarisedIn b (Ok m) = TextsIn b m
SummarisedIn b (Err e) = Unit {0}

unfoldable pub summarised_at : Shape → List ℕ → List ℕ → ℕ → ℕ → Answered model-frame.Summary
summarised_at s w b i n = cond (in_use s w b i) (gives (summary (place_at s w b i).stored.session n)) (refuses Refusal.rules_broken)

-- ---- reading messages: from a place in the log, `left` are still to be read, `dist` bytes together

unfoldable pub rest_at : Shape → List ℕ → List ℕ → ℕ → ℕ → List Msg
rest_at s w b i left = rest_in s.bytes s.messages (slice (words_at s i) (place_words s) w) (slice (bytes_at s i) (place_bytes s) b) left

unfoldable pub PositionAt : Shape → List ℕ → List ℕ → ℕ → ℕ → ℕ → Type 0
PositionAt s w b i left dist = PositionIn s.bytes s.messages (slice (words_at s i) (place_words s) w) (slice (bytes_at s i) (place_bytes s) b) left dist

-- the place where the messages with numbers from low begin
pub record FromAt (s : Shape) (w b : List ℕ) (i low left dist : ℕ) : Type 0 where
  pub stands : PositionAt s w b i left dist
  pub is : rest_at s w b i left ≡ numbered_from low (place_at s w b i).stored.session.messages

-- the next message: its number, its bytes in two parts of the byte area, and the place after it
pub record NextMessageAt (s : Shape) (w b : List ℕ) (i left dist number at first again rest left' dist' : ℕ) : Type 0 where
  pub is : rest_at s w b i left ≡ msg number (take first (drop at b) ++ take rest (drop again b)) ∷ rest_at s w b i left'
  pub stands : PositionAt s w b i left' dist'
  pub inside : at + first ≤ length b
  pub inside_again : again + rest ≤ length b
  pub fewer : left' + 1 ≡ left
  pub nearer : dist' + (first + rest) ≡ dist
