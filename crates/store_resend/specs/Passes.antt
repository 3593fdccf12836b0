-- How far a pass over the messages has come: what the functions of this crate promise each other. Assumes nothing.
use Rattle.std.specs.Prelude.{◌≡◌, true, List, ◌++◌, map, ℕ, ◌+◌, ◌*◌, ◌≤◌, length, drop}
use Rattle.model_session.specs.Session.{stored_bytes}
use Rattle.model_resend.specs.Resend.{Range, listed, served}
use Rattle.store_log.specs.declared.log.Log.{Log}
use Rattle.store_place.specs.Place.{next_out_of}
use Rattle.store_areas.specs.declared.Shape.{Shape}
use Rattle.store_areas.specs.Areas.{slice, words_at, place_words, bytes_at, place_bytes}
use Rattle.store_sessions.specs.Answers.{rest_at, PositionAt}
use Rattle.store_resend.specs.Ranges.{Keeps, ListEntry, words_of, served_at, all_inside}
use Rattle.store_resend.specs.declared.Kept.{Kept}
use Rattle.store_resend.specs.declared.Tally.{Tally}

-- the log of the session at a place
pub record LogAt (s : Shape) (w b : List ℕ) (i : ℕ) (log : Log) : Type 0 where
  pub words : log.words.now ≡ drop 14 (slice (words_at s i) (place_words s) w)
  pub bytes : log.bytes.now ≡ drop 224 (slice (bytes_at s i) (place_bytes s) b)
  pub long : length (slice (bytes_at s i) (place_bytes s) b) ≡ 224 + s.bytes
  pub max : log.max ≡ s.messages
  pub next : log.next ≡ next_out_of (slice (words_at s i) (place_words s) w)

-- counted so far, of the messages that were to be read at first
pub record Counting (s : Shape) (w b : List ℕ) (i : ℕ) (rs : List Range) (first back left dist : ℕ) (t : Tally) (k : Kept) : Type 0 where
  pub stands : PositionAt s w b i left dist
  pub keeps : Keeps rs k
  pub many : t.length + length (listed rs (rest_at s w b i left)) ≡ length (listed rs (rest_at s w b i first))
  pub sum : t.bytes + stored_bytes (listed rs (rest_at s w b i left)) ≡ stored_bytes (listed rs (rest_at s w b i first))
  pub few : t.length + left ≤ first
  pub less : t.bytes + dist ≤ back

-- entries written so far
pub record Filling (s : Shape) (w b : List ℕ) (i : ℕ) (rs : List Range) (first back : ℕ) (old : List ℕ) (left dist n : ℕ) (k : Kept) (new : List ℕ) : Type 0 where
  pub stands : PositionAt s w b i left dist
  pub keeps : Keeps rs k
  pub size : length new ≡ length old
  pub entries : List ListEntry
  pub many : length entries ≡ n
  pub shown : map (served_at b) entries ++ served rs (rest_at s w b i left) ≡ served rs (rest_at s w b i first)
  pub inside : all_inside b entries ≡ true
  pub words : new ≡ words_of entries ++ drop (6 * length entries) old

-- a listing that is so far, in an area with room for all of it
pub record Begun (s : Shape) (w b : List ℕ) (i left dist : ℕ) (t : Tally) (k : Kept) (new : List ℕ) : Type 0 where
  pub rs : List Range
  pub first : ℕ
  pub back : ℕ
  pub old : List ℕ
  pub small : back ≤ s.bytes
  pub fits : 6 * length (listed rs (rest_at s w b i first)) ≤ length old
  pub filling : Filling s w b i rs first back old left dist t.length k new
  pub counting : Counting s w b i rs first back left dist t k

-- a listing that was at the first of two places is at the second, whatever its ranges are
pub record Carries (s : Shape) (w b : List ℕ) (i : ℕ) (k : Kept) (left dist : ℕ) (t : Tally) (new : List ℕ) (left' dist' : ℕ) (t' : Tally) (new' : List ℕ) : Type 0 where
  pub fewer : left' ≤ left
  pub nearer : dist' ≤ dist
  pub fills : (rs : List Range) (first back : ℕ) (old : List ℕ) → 6 * length (listed rs (rest_at s w b i first)) ≤ length old → Filling s w b i rs first back old left dist t.length k new → Filling s w b i rs first back old left' dist' t'.length k new'
  pub counts : (rs : List Range) (first back : ℕ) → Counting s w b i rs first back left dist t k → Counting s w b i rs first back left' dist' t' k

-- messages were passed over, in every listing alike
pub record PassesOver (s : Shape) (w b : List ℕ) (i : ℕ) (k : Kept) (left dist left' dist' : ℕ) : Type 0 where
  pub stands : PositionAt s w b i left' dist'
  pub carries : (t : Tally) (new : List ℕ) → Carries s w b i k left dist t new left' dist' t new
