-- The log that two slices hold: every content of them means one. Assumes nothing.
use Rattle.std.specs.Prelude.{◌≡◌, ℕ, zero, suc, ◌+◌, ◌-◌, ◌^◌, ◌<◌, ◌≤◌, max, Bool, cond, ◌&&◌, ◌||◌, List, [], ◌∷◌, ◌++◌, reverse, length, take, drop, ◌==◌, nat_le, nat_lt, slice_index}
use Rattle.model_session.specs.Session.{Msg, stored_bytes, keep, Rising}
use Rattle.model_session.specs.Summary.{fnv_messages, fnv_start, numbered_from}
use Rattle.store_log.specs.LogWord

-- a message by its number and its bytes
abbrev pub msg : ℕ → List ℕ → Msg
msg n b = record { num = n; text = b }

-- what the entry ring holds of a message: its number and its length
pub data Entry : Type 0 where
  entry : ℕ → ℕ → Entry

abbrev pub num_of : Entry → ℕ
num_of (entry n l) = n

abbrev pub len_of : Entry → ℕ
len_of (entry n l) = l

-- ---- words: 0 is the slot that the next entry goes to, 1 the ring's tail, 2 + 2 i and 3 + 2 i the number and the length of slot i's entry

-- the byte ring from its tail on: the oldest byte first
abbrev pub unrolled : ℕ → List ℕ → List ℕ
unrolled t b = drop t b ++ take t b

abbrev pub head_of : ℕ → List ℕ → ℕ
head_of M w = cond (nat_lt (slice_index w LogWord.head) M) (slice_index w LogWord.head) 0

abbrev pub tail_of : ℕ → List ℕ → ℕ
tail_of C w = cond (nat_le (slice_index w LogWord.tail) C) (slice_index w LogWord.tail) 0

abbrev pub entry_at : List ℕ → ℕ → Entry
entry_at w p = entry (slice_index w (LogWord.number p)) (slice_index w (LogWord.length p))

-- the slot before s in a ring of M
abbrev pub before : ℕ → ℕ → ℕ
before M zero = M - 1
before M (suc s) = s

-- the f entries before slot s, the newest first
abbrev pub entries : List ℕ → ℕ → ℕ → ℕ → List Entry
entries w M zero s = []
entries w M (suc f) s = entry_at w (before M s) ∷ entries w M f (before M s)

abbrev pub newest : ℕ → List ℕ → List Entry
newest M w = entries w M M (head_of M w)

-- an entry counts while its number is from 1 and below the one before, and the bytes up to it stay within C
abbrev pub entry_counts : ℕ → ℕ → ℕ → ℕ → ℕ → Bool
entry_counts C d bound n l = nat_le 1 n && nat_lt n bound && nat_le (d + l) C

-- the messages of the entries, newest first: d bytes are taken already, and u is the unrolled ring
abbrev pub walk : ℕ → List ℕ → List Entry → ℕ → ℕ → List Msg
walk C u [] d bound = []
walk C u (entry n l ∷ es) d bound = cond (entry_counts C d bound n l) (msg n (take l (drop (C - (d + l)) u)) ∷ walk C u es (d + l) n) []

abbrev pub newest_first : ℕ → ℕ → ℕ → List ℕ → List ℕ → List Msg
newest_first C M next w b = walk C (unrolled (tail_of C w) b) (newest M w) 0 next

-- the log of a session whose next outgoing number is next, oldest first
unfoldable pub log_of : ℕ → ℕ → ℕ → List ℕ → List ℕ → List Msg
log_of C M next w b = reverse (newest_first C M next w b)

-- ---- reading: from a place in the log, `left` messages, the newest, are still to be read, `dist` bytes together

-- what is still to be read, oldest first
unfoldable pub rest_of : ℕ → ℕ → ℕ → List ℕ → List ℕ → ℕ → List Msg
rest_of C M next w b left = reverse (take left (newest_first C M next w b))

pub record Position (C M next : ℕ) (w b : List ℕ) (left dist : ℕ) : Type 0 where
  pub many : left ≤ length (newest_first C M next w b)
  pub few : left ≤ M
  pub sum : dist ≡ stored_bytes (take left (newest_first C M next w b))
  pub room : dist ≤ C

-- the place where the messages with numbers from low begin
pub record From (C M next low : ℕ) (w b : List ℕ) (left dist : ℕ) : Type 0 where
  pub stands : Position C M next w b left dist
  pub is : rest_of C M next w b left ≡ numbered_from low (log_of C M next w b)

-- the next message: its number, its bytes in two parts of the ring, and the place after it
pub record NextMessage (C M next : ℕ) (w b : List ℕ) (left dist number start first rest left' dist' : ℕ) : Type 0 where
  pub is : rest_of C M next w b left ≡ msg number (take first (drop start b) ++ take rest b) ∷ rest_of C M next w b left'
  pub stands : Position C M next w b left' dist'
  pub inside : start + first ≤ C
  pub front : rest ≤ C
  pub fewer : left' + 1 ≡ left
  pub nearer : dist' + (first + rest) ≡ dist

-- of messages with the newest first: those with numbers from lo
abbrev pub since : ℕ → List Msg → List Msg
since lo [] = []
since lo (m ∷ l) = cond (nat_le lo m.num) (m ∷ since lo l) []

-- ---- the walk from the newest message back, where count messages of sum bytes together are counted, the last of them with the number bound

-- of the messages with numbers from lo those that are still to be counted: they are in the entries before slot
abbrev pub uncounted : ℕ → ℕ → ℕ → List ℕ → List ℕ → ℕ → ℕ → ℕ → ℕ → List Msg
uncounted C M lo w b count sum slot bound = since lo (walk C (unrolled (tail_of C w) b) (entries w M (M - count) slot) sum bound)

pub record Counted (C M next lo : ℕ) (w b : List ℕ) (count sum slot bound : ℕ) : Type 0 where
  pub most : count ≤ M
  pub room : sum ≤ C
  pub many : length (since lo (newest_first C M next w b)) ≡ count + length (uncounted C M lo w b count sum slot bound)
  pub long : stored_bytes (since lo (newest_first C M next w b)) ≡ sum + stored_bytes (uncounted C M lo w b count sum slot bound)

-- the same by the room that is left, and by how far above lo the last number is
pub record Reached (C M next lo : ℕ) (w b : List ℕ) (count room slot reach : ℕ) : Type 0 where
  pub counted : Counted C M next lo w b count (C - room) slot (lo + reach)
  pub within : room ≤ C
  pub fits : lo + reach < 2 ^ 64

-- the slot of the i-th newest entry, i from 1 to M
abbrev pub slot_at : ℕ → ℕ → ℕ → ℕ
slot_at M h i = cond (nat_le i h) (h - i) (h + M - i)

-- two parts of a ring of C bytes with the tail t hold the l bytes from d bytes back
pub record Spanned (t C d l start first rest : ℕ) : Type 0 where
  pub inside : start + first ≤ C
  pub front : rest ≤ C
  pub long : first + rest ≡ l
  pub holds : (b : List ℕ) → length b ≡ C → take first (drop start b) ++ take rest b ≡ take l (drop (C - d) (unrolled t b))

-- last_outgoing over n of a log, for a session whose next outgoing number is next
unfoldable pub last_of : ℕ → ℕ → List Msg → ℕ
last_of next n l = cond (n == 0 || next == 1) 0 (fnv_messages fnv_start (numbered_from (max (next - n) 1) l))

-- a log recorded message by message
abbrev pub replayed : ℕ → ℕ → List Msg → List Msg → List Msg
replayed C M l [] = l
replayed C M l (m ∷ r) = replayed C M (keep C M m l) r

-- what the store can hold: every log in areas satisfies it
pub record Lawful (C M next : ℕ) (l : List Msg) : Type 0 where
  pub rising : Rising 1 next l
  pub count : length l ≤ M
  pub bytes : stored_bytes l ≤ C
