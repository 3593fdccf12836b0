-- What a call on the standby promises, over the counters, the lent row, the store's two areas and the hold areas. Assumes nothing.
use Rattle.std.specs.Prelude.{ℕ, ◌≡◌, Bool, true, false, cond, not, ◌&&◌, ◌||◌, List, length, get_or, set, eqb, leb, ltb}
use Rattle.std.proofs.Math.Option.{Option, none, some}
use Rattle.model_frame.specs.Refusal
use Rattle.model_frame.specs.Bytes.{le_at}
use Rattle.model_frame.specs.Frame.{Frame, hello, welcome, bind, batch, ack, nack, bound, checked}
use Rattle.model_lowest.specs.Lowest.{handed_up}
use Rattle.base_flags.specs.Flag.{is_set}
use Rattle.standby_segments.specs.Segments.{Holds, Lengths}
use Rattle.standby_row.specs.declared.Bound.{Bound}
use Rattle.standby_row.specs.Row.{free_record, find_of, broken_of, apart_of, alone_at, spot_for, cleared_all}
use Rattle.standby_handles.specs.Rows.{row_of}
use Rattle.store_areas.specs.Areas.{allowed, places_of, used_of}
use Rattle.standby_pending.specs.Pending.{pending_of}
use Rattle.model_text.specs.Version.{latest}
use Rattle.model_standby.specs.Answer.{Given, damaged, intact, given, reply, refused, done, accepted, says_diverged}
use Rattle.model_standby.specs.Answer as the-answer
use Rattle.model_standby.specs.Row.{Row, find}
use Rattle.model_standby.specs.State.{Counters, Standby, Call, on_frame_held, on_frame, flush, disconnected_from, promote, promote_unchecked}
use Rattle.model_standby.specs.State as state
use Rattle.model_standby.specs.Standby.{step}
use Rattle.standby_part.specs.State.{bound_of, record_for}
use Rattle.standby_counters.specs.declared.Replica.{Replica}
use Rattle.standby_state.specs.declared.Settings.{Settings}
use Rattle.standby_state.specs.declared.Answer.{Answer}
use Rattle.standby_state.specs.Answers.{answer_of, is_refused, plain}
use Rattle.standby_state.specs.Exact.{Exact, HandsUp}
use Rattle.standby_state.specs.Outcomes.{counters_of, settings_of}
use Rattle.standby_step.specs.Steps.{room_of, handle_by, keeps_counters, Leaves, holds_after, closes_by, writes_by}

-- the length of each hold area
abbrev pub room_all : List Bound → List ℕ → ℕ
room_all row h = room_of (length h) (length row)

-- and of its words
abbrev pub lengths_all : List Bound → Holds → Lengths
lengths_all row h = record { bytes = room_all row h.bytes; ends = room_all row h.ends }

-- what it all stands for
abbrev pub standby_of : Settings → Replica → List Bound → List ℕ → List ℕ → Holds → Standby
standby_of s c row w b h =
    record { counters = counters_of c; places = places_of s.shape w b; handles = row_of (bound_of latest) (lengths_all row h) row h; pending = pending_of w }

-- the rules, which ask nothing of the words: the store's; no two used records have one handle, and no two name one place; none names a place that isn't in use or holds more than its area has
abbrev pub allowed_all : Settings → List Bound → List ℕ → List ℕ → List ℕ → Bool
allowed_all s row w b h = allowed s.shape w b && (apart_of row && leb (length row) (broken_of row (used_of w) (room_all row h)))

-- the four bytes where a Bind and a Batch have their handle
abbrev pub handle_at : List ℕ → ℕ
handle_at f = cond (ltb (length f) 9) 0 (le_at 4 f 5)

-- the handle that is looked up
abbrev pub sought_by : Call → ℕ
sought_by (on_frame_held f) = handle_at f
sought_by (on_frame f) = handle_at f
sought_by (flush n) = 0
sought_by (disconnected_from n) = 0
sought_by promote = 0
sought_by promote_unchecked = 0

-- ---- the row, record for record

-- what a call does to the row: nothing; the record of the handle h is put; the same, once no other handle has its place; or every record is freed
-- and keeps its other fields
pub data RowChange : Type 0 where
  keeps : RowChange
  puts : ℕ → RowChange
  rebinds : ℕ → RowChange
  frees : RowChange

-- 17
abbrev pub says_too_many : the-answer.Answer → Bool
says_too_many (reply f) = false
says_too_many (refused n) = eqb n Refusal.too_many_bytes
says_too_many done = false

-- a frame, by the counters before it and its answer: an accepted Hello frees all (one of a lower epoch is only told the standby's);
-- an accepted Bind binds its handle anew; a Batch that is acknowledged, Diverged or refused with 17 puts its handle's record; all else nothing
abbrev pub row_by_frame : Counters → Frame → the-answer.Answer → RowChange
row_by_frame c (hello v e node kinds) a = cond (accepted a && not (ltb e c.epoch)) frees keeps
row_by_frame c (welcome e i) a = keeps
row_by_frame c (bind h e lag k) a = cond (accepted a) (rebinds h) keeps
row_by_frame c (batch h e n part cs apps) a = cond (accepted a || (says_diverged a || says_too_many a)) (puts h) keeps
row_by_frame c (ack h n) a = keeps
row_by_frame c (nack h r) a = keeps
row_by_frame c (bound h m) a = keeps
row_by_frame c (checked h e i) a = keeps

abbrev pub row_by_given : Counters → Given → the-answer.Answer → RowChange
row_by_given c (damaged n) a = keeps
row_by_given c (intact f) a = row_by_frame c f a

-- a call: the connection that was lost and promotion free all
abbrev pub row_by : Counters → Call → the-answer.Answer → RowChange
row_by c (on_frame_held f) a = row_by_given c (given c.version f) a
row_by c (on_frame f) a = row_by_given c (given c.version f) a
row_by c (flush n) a = keeps
row_by c (disconnected_from n) a = cond (eqb n c.connections) frees keeps
row_by c promote a = cond (accepted a) frees keeps
row_by c promote_unchecked a = frees

-- the record that is put, at place i, is that of the handle as the definition leaves it bound
abbrev pub RowPut : ℕ → ℕ → Option state.Bound → List Bound → List Bound → Type 0
RowPut i h none row row' = ⊥
RowPut i h (some x) row row' = row' ≡ set row i (record_for h x)

-- no other handle has its session's place then
abbrev pub RowRebound : ℕ → Option state.Bound → List Bound → List Bound → Type 0
RowRebound h none row row' = ⊥
RowRebound h (some x) row row' = RowPut (spot_for (alone_at row h x.place) h) h (some x) (alone_at row h x.place) row'

-- with the handles that the definition leaves
abbrev pub RowLeaves : RowChange → Row state.Bound → List Bound → List Bound → Type 0
RowLeaves keeps t row row' = row' ≡ row
RowLeaves (puts h) t row row' = RowPut (spot_for row h) h (find h t) row row'
RowLeaves (rebinds h) t row row' = RowRebound h (find h t) row row'
RowLeaves frees t row row' = row' ≡ cleared_all row

-- the definition's step, and what stays as it was
pub record CalledSteps (s : Settings) (call : Call) (c c' : Replica) (row row' : List Bound) (w w' b b' : List ℕ) (h h' : Holds) (a : Answer) : Type 0 where
  pub is : record { state = standby_of s c' row' w' b' h'; answer = answer_of b' a } ≡ step (settings_of s (room_all row h.bytes)) (standby_of s c row w b h) call
  pub allowed : allowed_all s row' w' b' h'.bytes ≡ true
  pub leaves : Leaves s.shape c (get_or row (find_of row (handle_by call)) free_record).place call w w' b b' a
  pub holds : h' ≡ holds_after (lengths_all row h) (find_of row (handle_by call)) (closes_by (counters_of c) call)
      (writes_by (settings_of s (room_all row h.bytes)) (counters_of c) (find (handle_by call) (standby_of s c row w b h).handles) call) h
  pub row_leaves : RowLeaves (row_by (counters_of c) call (step (settings_of s (room_all row h.bytes)) (standby_of s c row w b h) call).answer)
      (step (settings_of s (room_all row h.bytes)) (standby_of s c row w b h) call).state.handles row row'
  -- a refusal leaves the row as it was; 17 raises the byte sum of its handle's record
  pub row_still : (n : ℕ) → answer_of b' a ≡ refused n → eqb n Refusal.too_many_bytes ≡ false → row' ≡ row
  pub row_length : length row' ≡ length row
  pub counters_kept : keeps_counters c call ≡ true → c' ≡ c
  pub holds_length : length h'.bytes ≡ length h.bytes
  pub ends_length : length h'.ends ≡ length h.ends
  -- the lowest message on hand, beside the frame: of an applied Commit, if the settings ask for it, and of an applied LastWhole
  pub lowest : HandsUp (handed_up (is_set s.tells_lowest) (standby_of s c row w b h) call (step (settings_of s (room_all row h.bytes)) (standby_of s c row w b h) call)) a

-- 25 where the rules are broken, and all is as it was; else the step; but for the lowest message on hand the answer is the record of what it stands for, field for field
pub record Called (s : Settings) (call : Call) (c c' : Replica) (row row' : List Bound) (w w' b b' : List ℕ) (h h' : Holds) (a : Answer) : Type 0 where
  pub refuses : allowed_all s row w b h.bytes ≡ false → (a ≡ is_refused Refusal.rules_broken) × ((c' ≡ c) × ((row' ≡ row) × ((w' ≡ w) × ((b' ≡ b) × (h' ≡ h)))))
  pub steps : allowed_all s row w b h.bytes ≡ true → CalledSteps s call c c' row row' w w' b b' h h' a
  pub exact : Exact b' (plain a)
