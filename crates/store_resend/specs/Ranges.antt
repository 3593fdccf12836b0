-- Ranges in lent words, up to which number a set stays, and what a listing answers and leaves. Assumes nothing.
use Rattle.std.specs.Prelude.{◌≡◌, ℕ, zero, suc, ◌+◌, ◌*◌, ◌-◌, ◌/◌, ◌%◌, ◌≤◌, min, Bool, true, cond, ◌&&◌, List, [], ◌∷◌, ◌++◌, map, length, get_or, take, drop, leb, ltb, eqb, Result, Ok, Err}
use Rattle.std.proofs.lemmas.List.Edits.{sets}
use Rattle.model_session.specs.Session.{Msg, stored_bytes, top}
use Rattle.model_resend.specs.Resend.{Range, Served, set_of, listed, served, refusal_of}
use Rattle.base_refusals.specs.declared.Refusal.{Refusal}
use Rattle.base_refusals.specs.Numbers.{number_of}
use Rattle.store_log.specs.Log.{msg}
use Rattle.store_areas.specs.declared.Shape.{Shape}
use Rattle.store_areas.specs.Areas.{in_use, place_at}
use Rattle.store_sessions.specs.declared.Message.{Message}
use Rattle.store_resend.specs.declared.Range as declared
use Rattle.store_resend.specs.declared.Listed.{Listed}
use Rattle.store_resend.specs.declared.Kept.{Kept}
use Rattle.store_resend.specs.declared.Tally.{Tally}

-- a range of the code
abbrev pub range_of : declared.Range → Range
range_of r = record { first = r.first; last = r.last }

-- range j stands in words 2 j and 2 j + 1: its first and its last
abbrev pub range_at : List ℕ → ℕ → Range
range_at w j = record { first = get_or w (2 * j) 0; last = get_or w (2 * j + 1) 0 }

-- n ranges from range j on
abbrev pub ranges_from : List ℕ → ℕ → ℕ → List Range
ranges_from w j zero = []
ranges_from w j (suc n) = range_at w j ∷ ranges_from w (suc j) n

-- ---- up to which number the set of n stays

-- for one range, and for all
abbrev pub stays : Range → ℕ → ℕ
stays r n = cond (ltb n r.first) (r.first - 1) (cond (eqb r.last 0) top (cond (leb n r.last) r.last top))

abbrev pub until : List Range → ℕ → ℕ
until [] n = top
until (r ∷ rs) n = min (stays r n) (until rs n)

-- no range holds a number below this
abbrev pub lowest_of : List Range → ℕ
lowest_of [] = top
lowest_of (r ∷ rs) = min r.first (lowest_of rs)

-- the set that every number from base to until has
pub record Keeps (rs : List Range) (k : Kept) : Type 0 where
  pub keeps : (m : ℕ) → k.base ≤ m → m ≤ k.until → set_of rs m ≡ k.set

-- and n is one of them
pub record Serves (rs : List Range) (n : ℕ) (k : Kept) : Type 0 where
  pub same : Keeps rs k
  pub from : k.base ≤ n
  pub upto : n ≤ k.until

-- ---- the two passes over the messages that are still to be read

-- how many are listed, and their bytes: at most all of the bytes
pub record Counts (rs : List Range) (ms : List Msg) (dist : ℕ) (t : Tally) : Type 0 where
  pub many : t.length ≡ length (listed rs ms)
  pub sum : t.bytes ≡ stored_bytes (listed rs ms)
  pub within : t.bytes ≤ dist

-- a message counts unless its set is empty
pub record Adds (set size : ℕ) (t r : Tally) : Type 0 where
  pub many : r.length ≡ cond (eqb set 0) t.length (t.length + 1)
  pub sum : r.bytes ≡ cond (eqb set 0) t.bytes (t.bytes + size)

-- ---- entries of six words: a message's number, its set, and its bytes as two parts of the store's byte area (where each begins, how many bytes)

pub record ListEntry : Type 0 where
  pub number : ℕ
  pub set : ℕ
  pub at : ℕ
  pub first : ℕ
  pub again : ℕ
  pub rest : ℕ

abbrev pub entry_words : ListEntry → List ℕ
entry_words e = e.number ∷ e.set ∷ e.at ∷ e.first ∷ e.again ∷ e.rest ∷ []

abbrev pub words_of : List ListEntry → List ℕ
words_of [] = []
words_of (e ∷ es) = entry_words e ++ words_of es

-- the message that an entry stands for, its bytes taken from the area
abbrev pub served_at : List ℕ → ListEntry → Served
served_at b e = record { message = msg e.number (take e.first (drop e.at b) ++ take e.rest (drop e.again b)); set = e.set }

-- both parts lie in the area
abbrev pub is_inside : List ℕ → ListEntry → Bool
is_inside b e = leb (e.at + e.first) (length b) && leb (e.again + e.rest) (length b)

abbrev pub all_inside : List ℕ → List ListEntry → Bool
all_inside b [] = true
all_inside b (e ∷ es) = is_inside b e && all_inside b es

-- entries of the messages that are listed, at the start of the area; what is past them stays
pub record Written (rs : List Range) (b : List ℕ) (ms : List Msg) (old new : List ℕ) : Type 0 where
  pub entries : List ListEntry
  pub are : map (served_at b) entries ≡ served rs ms
  pub inside : all_inside b entries ≡ true
  pub words : new ≡ words_of entries ++ drop (6 * length entries) old

-- the entry of a message that was read
abbrev pub entry_words_of : ℕ → Message → ListEntry
entry_words_of set m = record { number = m.number; set = set; at = m.first.at; first = m.first.len; again = m.second.at; rest = m.second.len }

-- entry k is written unless the set is empty
abbrev pub entered : ℕ → ℕ → Message → List ℕ → List ℕ
entered k set m l = cond (eqb set 0) l (sets l (6 * k) (entry_words (entry_words_of set m)))

-- there is room for entry k, if it is written
abbrev pub HasRoom : ℕ → ℕ → List ℕ → Type 0
HasRoom set k l = (set ≡ 0 → ⊥) → 6 * k + 6 ≤ length l

-- the entries are written, and counted
pub record Fills (rs : List Range) (b : List ℕ) (ms : List Msg) (dist : ℕ) (old : List ℕ) (t : Tally) (new : List ℕ) : Type 0 where
  pub written : Written rs b ms old new
  pub counts : Counts rs ms dist t

-- ---- the listing

-- the ranges that all words stand for
abbrev pub ranges_of : List ℕ → List Range
ranges_of w = ranges_from w 0 (length w / 2)

abbrev pub messages_at : Shape → List ℕ → List ℕ → ℕ → List Msg
messages_at s w b i = (place_at s w b i).stored.session.messages

-- an answer as programs in C get it: 0 and what is listed, or the refusal's number and nothing
abbrev pub listed_of : Result Tally Refusal → Listed
listed_of (Ok t) = record { refusal = 0; length = t.length; bytes = t.bytes }
listed_of (Err e) = record { refusal = number_of e; length = 0; bytes = 0 }

-- 25: broken areas, a place without a session, half a range; then 35 and 36 of the definition. A refusal keeps the answer area; success what is past the list.
pub record Lists (s : Shape) (w b : List ℕ) (i : ℕ) (ranges entries : List ℕ) (r : Listed) (new : List ℕ) : Type 0 where
  pub refusal : r.refusal ≡ cond (in_use s w b i && eqb (length ranges % 2) 0) (refusal_of (ranges_of ranges) (messages_at s w b i) (length entries / 6)) 25
  pub many : r.refusal ≡ 0 → r.length ≡ length (listed (ranges_of ranges) (messages_at s w b i))
  pub sum : r.refusal ≡ 0 → r.bytes ≡ stored_bytes (listed (ranges_of ranges) (messages_at s w b i))
  pub within : r.bytes ≤ s.bytes
  pub written : r.refusal ≡ 0 → Written (ranges_of ranges) b (messages_at s w b i) entries new
  pub none_listed : (r.refusal ≡ 0 → ⊥) → (r.length ≡ 0) × (r.bytes ≡ 0)
  pub refused : (r.refusal ≡ 0 → ⊥) → new ≡ entries
  pub size : length new ≡ length entries
