-- Several resend ranges together (request U11): which stored messages are listed, and with which set of ranges. Assumes nothing.
use Rattle.std.specs.Prelude.{◌≡◌, ℕ, ◌+◌, ◌*◌, Bool, true, false, cond, not, ◌&&◌, ◌||◌, List, [], ◌∷◌, map, length, leb, ltb, eqb}
use Rattle.model_session.specs.Session.{Msg, stored_bytes}

pub record Range : Type 0 where
  pub first : ℕ
  pub last : ℕ

-- a first of 0, or a nonzero last below the first, is no range
abbrev pub is_range : Range → Bool
is_range r = leb 1 r.first && (eqb r.last 0 || leb r.first r.last)

abbrev pub are_ranges : List Range → Bool
are_ranges [] = true
are_ranges (r ∷ rs) = is_range r && are_ranges rs

-- a number lies in a range: first and last included; last 0 means to the end
abbrev pub lies : Range → ℕ → Bool
lies r n = leb r.first n && (eqb r.last 0 || leb n r.last)

abbrev pub lies_in_some : List Range → ℕ → Bool
lies_in_some [] n = false
lies_in_some (r ∷ rs) n = lies r n || lies_in_some rs n

-- the set of ranges that a number lies in, as a number: bit 0 is the first range
abbrev pub set_of : List Range → ℕ → ℕ
set_of [] n = 0
set_of (r ∷ rs) n = cond (lies r n) 1 0 + 2 * set_of rs n

-- the messages that lie in some range, in their order, each once
abbrev pub listed : List Range → List Msg → List Msg
listed rs [] = []
listed rs (m ∷ ms) = cond (lies_in_some rs m.num) (m ∷ listed rs ms) (listed rs ms)

-- a message that is listed, with the set of ranges that it serves
pub record Served : Type 0 where
  pub message : Msg
  pub set : ℕ

abbrev pub serve : List Range → Msg → Served
serve rs m = record { message = m; set = set_of rs m.num }

-- the answer: each stored message that lies in some range, rising as they are stored, once, with its set
abbrev pub served : List Range → List Msg → List Served
served rs ms = map (serve rs) (listed rs ms)

abbrev pub max_ranges : ℕ
max_ranges = 64

-- ---- the refusals

abbrev pub bad_ranges : ℕ
bad_ranges = 35

abbrev pub too_few_entries : ℕ
too_few_entries = 36

-- 35: more than 64, or one that is no range; then 36: an answer area with too few entries for the list
abbrev pub refusal_of : List Range → List Msg → ℕ → ℕ
refusal_of rs ms room = cond (leb (length rs) max_ranges && are_ranges rs) (cond (leb (length (listed rs ms)) room) 0 too_few_entries) bad_ranges
