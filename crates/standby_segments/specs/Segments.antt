-- The changes held in a hold area: they stand in segments, closed ones and behind these the open one. Where closed segments end stand in words
-- lent beside the hold area; every content of both means something. Assumes nothing.
use Rattle.std.specs.Prelude.{ℕ, zero, suc, ◌+◌, ◌-◌, Bool, cond, ◌&&◌, List, [], ◌∷◌, ◌++◌, length, take, drop, set, ltb, leb}
use Rattle.model_frame.specs.Bytes.{write}
use Rattle.model_frame.specs.Frame.{Change, reset}
use Rattle.model_frame.specs.Parse.{Res, ok, bad}
use Rattle.model_frame.specs.Reading.{read_change}
use Rattle.frame_op.specs.Answers.{held_run}

-- ---- where segments end

-- the words that count: from the first on, as long as each is above the one before it (the first above 0) and within the length held
abbrev pub closed_ends : List ℕ → ℕ → ℕ → List ℕ
closed_ends [] last len = []
closed_ends (e ∷ es) last len = cond (ltb last e && leb e len) (e ∷ closed_ends es e len) []

-- where the open segment begins: at the last of these ends
abbrev pub open_from : ℕ → List ℕ → ℕ
open_from last [] = last
open_from last (e ∷ es) = open_from e es

-- ---- their changes

-- a byte at which no change can be read counts as a Reset
abbrev pub or_reset : Res Change → List ℕ → (List ℕ → List Change) → List Change
or_reset (ok c t) s f = c ∷ f t
or_reset (bad e) s f = reset ∷ f (drop 1 s)

unfoldable pub total_from : ℕ → ℕ → List ℕ → List Change
total_from version zero s = []
total_from version (suc n) [] = []
total_from version (suc n) (b ∷ bs) = or_reset (read_change version (b ∷ bs)) (b ∷ bs) (total_from version n)

-- the changes of a closed segment, which take all of its bytes: each takes a byte at least
unfoldable pub total_run : ℕ → List ℕ → List Change
total_run version s = total_from version (length s) s

-- the changes of a segment: of the open one the longest run of valid changes
abbrev pub segment_run : ℕ → Bool → List ℕ → List Change
segment_run version closed s = cond closed (total_run version s) (held_run version s)

-- of bytes that begin at a position: the segments that end there, then the open one
abbrev pub held_from : ℕ → List ℕ → ℕ → List ℕ → List Change
held_from version [] from s = held_run version s
held_from version (e ∷ es) from s = total_run version (take (e - from) s) ++ held_from version es e (drop (e - from) s)

-- THE CHANGES HELD in these bytes of a hold area, with these words
abbrev pub held_changes : ℕ → List ℕ → List ℕ → List Change
held_changes version ends s = held_from version (closed_ends ends 0 (length s)) 0 s

-- ---- the words after a Whole

-- a segment is closed when it has so many bytes
abbrev pub segment_bytes : ℕ
segment_bytes = 65536

-- what stands behind the ends that count: the end of the open segment if it is closed, else 0, which counts for none
abbrev pub end_for : ℕ → ℕ → ℕ
end_for from len = cond (leb segment_bytes (len - from)) len 0

-- one word is written, that of the open segment, where there is one left for it
abbrev pub ends_after : List ℕ → ℕ → ℕ → List ℕ
ends_after ends held len = set ends (length (closed_ends ends 0 held)) (end_for (open_from 0 (closed_ends ends 0 held)) len)

-- ---- hold areas: bytes, and the words that say where their closed segments end

-- those of a place, or those of all places as they are lent
pub record Holds : Type 0 where
  pub bytes : List ℕ
  pub ends : List ℕ

abbrev pub hold_areas : List ℕ → List ℕ → Holds
hold_areas bytes ends = record { bytes = bytes; ends = ends }

-- how many bytes and how many words each place has
pub record Lengths : Type 0 where
  pub bytes : ℕ
  pub ends : ℕ

-- THE CHANGES HELD in so many of its bytes
abbrev pub held_in : ℕ → Holds → ℕ → List Change
held_in version area len = held_changes version area.ends (take len area.bytes)

-- a run of changes is written behind those held, which take so many bytes; after a Whole the segment that ends there is closed, or stays open
abbrev pub with_run : Bool → ℕ → List ℕ → Holds → Holds
with_run closes used run area = record { bytes = write area.bytes used run; ends = cond closes (ends_after area.ends used (used + length run)) area.ends }
