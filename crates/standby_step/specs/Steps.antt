-- What a call's core leaves and answers, of what was found in the row: the definition's step, and what stays as it was. Assumes nothing.
use Rattle.std.specs.Prelude.{ℕ, ◌+◌, ◌*◌, ◌/◌, ◌≤◌, ◌≡◌, Bool, true, false, cond, not, ◌&&◌, ◌||◌, List, length, set, eqb, ltb, leb, is_some}
use Rattle.std.proofs.Math.Option.{Option, none, some}
use Rattle.base_flags.specs.Flag.{is_set}
use Rattle.model_frame.specs.Refusal
use Rattle.model_frame.specs.Bytes.{write}
use Rattle.model_frame.specs.Frame.{hello, welcome, bind, batch, ack, nack, bound, checked}
use Rattle.standby_segments.specs.Segments.{Holds, Lengths, closed_ends, open_from, end_for}
use Rattle.standby_row.specs.declared.Bound.{Bound as BoundRecord}
use Rattle.standby_row.specs.declared.lookup.Lookup.{Lookup}
use Rattle.standby_row.specs.Row.{rival_of, own_place, own_record}
use Rattle.store_place.specs.Only.{Only}
use Rattle.store_areas.specs.StoreWord
use Rattle.store_areas.specs.declared.Shape.{Shape}
use Rattle.store_areas.specs.Areas.{words_at, bytes_at, allowed, Rules, places_of, used_of}
use Rattle.standby_pending.specs.Pending.{pending_of}
use Rattle.standby_pending_run.specs.Commits.{ran_words}
use Rattle.standby_commit.specs.Settling.{StoreChange, stays, bind_change, batch_change, StoreAfter}
use Rattle.model_text.specs.Version.{latest}
use Rattle.frame_stamp.specs.Versions.{version_of}
use Rattle.model_standby.specs.Answer.{Given, damaged, intact, given, handle_in, accepted, is_reply}
use Rattle.model_standby.specs.Store.{Place, place_of, is_stored}
use Rattle.model_standby.specs.State.{Bound, Counters, Call, on_frame_held, on_frame, flush, disconnected_from, promote, promote_unchecked}
use Rattle.model_standby.specs.State as state
use Rattle.model_standby.specs.Standby.{due}
use Rattle.model_standby.specs.Hold.{HoldWrite, writes}
use Rattle.model_standby.specs.Core.{core_step}
use Rattle.standby_handles.specs.Rows.{area_at}
use Rattle.standby_part.specs.State.{core_at}
use Rattle.standby_batch_handle.specs.Handling.{is_whole, found_of}
use Rattle.standby_counters.specs.declared.Replica.{Replica}
use Rattle.standby_state.specs.declared.Settings.{Settings}
use Rattle.standby_state.specs.declared.Answer.{Answer}
use Rattle.standby_state.specs.declared.Outcome.{Outcome}
use Rattle.standby_state.specs.Answers.{answer_of, is_refused}
use Rattle.standby_state.specs.Exact.{Exact}
use Rattle.standby_state.specs.Outcomes.{counters_of, settings_of, room_for, leaving, outcome_of, Lands}

-- ---- hold areas: the bytes are divided evenly among the row's places, and so are the words

abbrev pub room_of : ℕ → ℕ → ℕ
room_of bytes places = cond (eqb places 0) 0 (bytes / places)

-- how long the part of each is, where the row was seen with so many places
abbrev pub room_in : Lookup → List ℕ → ℕ
room_in seen h = room_of (length h) seen.len

abbrev pub lengths_in : Lookup → Holds → Lengths
lengths_in seen h = record { bytes = room_in seen h.bytes; ends = room_in seen h.ends }

-- ---- what was found

abbrev pub is_found : Lookup → Bool
is_found seen = is_some seen.own

abbrev pub found_in : Lookup → Holds → Option Bound
found_in seen h = found_of latest (is_found seen) (own_record seen) (area_at (lengths_in seen h) (own_place seen) h)

-- at which session places the row has room for the handle k, once no other handle has the place
abbrev pub rooms_in : Lookup → List BoundRecord → ℕ → ℕ → Bool
rooms_in seen row k p = room_for seen (rival_of row k p)

-- the rules: the store's, the row's records apart and none broken, and the record found is none
abbrev pub seen_allowed : Shape → Lookup → List ℕ → List ℕ → List ℕ → Bool
seen_allowed s seen w b h =
    allowed s w b
    && (seen.apart
    && (not (is_some seen.broken)
    && (not (is_found seen) || (ltb (own_record seen).place (used_of w) && leb (own_record seen).held_len (room_in seen h)))))

-- ---- what stays as it was

-- whether pending commits run before the frame is answered
abbrev pub due_now : Bool → List (ℕ × ℕ) → Given → Bool
due_now promoted pending (damaged n) = false
due_now promoted pending (intact f) = not promoted && due pending f

-- what a frame changes in the store, of the places and its handle's place p, if it is accepted or not: a Bind and a Batch as said, no other frame anything
abbrev pub changes_by : List Place → ℕ → Given → Bool → StoreChange
changes_by ps p (damaged n) taken = stays
changes_by ps p (intact (hello v e node kinds)) taken = stays
changes_by ps p (intact (welcome e i)) taken = stays
changes_by ps p (intact (bind h e lag k)) taken = bind_change (place_of k ps) (is_stored k ps) taken
changes_by ps p (intact (batch h e n part cs apps)) taken = batch_change h p part taken
changes_by ps p (intact (ack h n)) taken = stays
changes_by ps p (intact (nack h r)) taken = stays
changes_by ps p (intact (bound h m)) taken = stays
changes_by ps p (intact (checked h e i)) taken = stays

-- commits run before, if they are due; then the change; then commits run after it, if asked. No other word or byte changes
pub record FrameLeaves (s : Shape) (x : StoreChange) (before after : Bool) (w w' b b' : List ℕ) : Type 0 where
  pub mid : List ℕ
  pub store_after : StoreAfter s x (cond before (ran_words s w) w) mid b b'
  pub last : w' ≡ cond after (ran_words s mid) mid

-- promotion: nothing but the places in use and the count of pending commits
pub record PromotionLeaves (s : Shape) (refused : Bool) (w w' b b' : List ℕ) : Type 0 where
  pub still : refused ≡ true → (w' ≡ w) × (b' ≡ b)
  pub words : refused ≡ false → Only StoreWord.places (words_at s (used_of w)) (set w StoreWord.pending 0) w'
  pub bytes : refused ≡ false → Only 0 (bytes_at s (used_of w)) b b'

-- by the handle's place and the answer; a frame is read in the connection's version
abbrev pub Leaves : Shape → Replica → ℕ → Call → List ℕ → List ℕ → List ℕ → List ℕ → Answer → Type 0
Leaves s c p (on_frame_held f) w w' b b' a = FrameLeaves s (changes_by (places_of s w b) p (given (version_of c.version2) f) (accepted (answer_of b' a))) (due_now (is_set c.promoted) (pending_of w) (given (version_of c.version2) f)) false w w' b b'
Leaves s c p (on_frame f) w w' b b' a = FrameLeaves s (changes_by (places_of s w b) p (given (version_of c.version2) f) (accepted (answer_of b' a))) (due_now (is_set c.promoted) (pending_of w) (given (version_of c.version2) f)) (is_reply (answer_of b' a)) w w' b b'
Leaves s c p (flush n) w w' b b' a = (w' ≡ cond (eqb a.refusal 0) (ran_words s w) w) × (b' ≡ b)
Leaves s c p (disconnected_from n) w w' b b' a = (w' ≡ cond (eqb n c.connections) (set w StoreWord.pending 0) w) × (b' ≡ b)
Leaves s c p promote w w' b b' a = PromotionLeaves s (not (eqb a.refusal 0)) w w' b b'
Leaves s c p promote_unchecked w w' b b' a = PromotionLeaves s (not (eqb a.refusal 0)) w w' b b'

-- ---- the hold areas: the frame's changes at their place, or nothing

-- with these closed segments of place i and so many bytes held, the word of the open one says whether it is closed, if there is a word left for it
abbrev pub with_end : ℕ → ℕ → List ℕ → ℕ → List ℕ → List ℕ
with_end room i closed len l = cond (ltb (length closed) room) (set l (i * room + length closed) (end_for (open_from 0 closed) len)) l

-- a Whole writes that word too, and no other
abbrev pub holds_after : Lengths → ℕ → Bool → Option HoldWrite → Holds → Holds
holds_after room i closes none h = h
holds_after room i closes (some x) h = record {
  bytes = write h.bytes (i * room.bytes + x.offset) x.bytes;
  ends = cond closes (with_end room.ends i (closed_ends (area_at room i h).ends 0 x.offset) (x.offset + length x.bytes) h.ends) h.ends;
}

-- the frame is a Whole
abbrev pub closes_given : Given → Bool
closes_given (damaged n) = false
closes_given (intact (hello v e node kinds)) = false
closes_given (intact (welcome e i)) = false
closes_given (intact (bind h e lag k)) = false
closes_given (intact (batch h e n part cs apps)) = is_whole part
closes_given (intact (ack h n)) = false
closes_given (intact (nack h r)) = false
closes_given (intact (bound h m)) = false
closes_given (intact (checked h e i)) = false

abbrev pub closes_by : Counters → Call → Bool
closes_by c (on_frame_held f) = closes_given (given c.version f)
closes_by c (on_frame f) = closes_given (given c.version f)
closes_by c (flush n) = false
closes_by c (disconnected_from n) = false
closes_by c promote = false
closes_by c promote_unchecked = false

abbrev pub writes_by : state.Settings → Counters → Option Bound → Call → Option HoldWrite
writes_by L c found (on_frame_held f) = writes L c found (given c.version f)
writes_by L c found (on_frame f) = writes L c found (given c.version f)
writes_by L c found (flush n) = none
writes_by L c found (disconnected_from n) = none
writes_by L c found promote = none
writes_by L c found promote_unchecked = none

-- ---- a call

-- the frame has a handle to look up: it is a Bind or a Batch
abbrev pub has_handle : Given → Bool
has_handle (damaged n) = false
has_handle (intact (hello v e node kinds)) = false
has_handle (intact (welcome e i)) = false
has_handle (intact (bind h e lag k)) = true
has_handle (intact (batch h e n part cs apps)) = true
has_handle (intact (ack h n)) = false
has_handle (intact (nack h r)) = false
has_handle (intact (bound h m)) = false
has_handle (intact (checked h e i)) = false

-- the handle that a call's frame names: what some version reads, the latest reads too
abbrev pub handle_by : Call → ℕ
handle_by (on_frame_held f) = handle_in (given latest f)
handle_by (on_frame f) = handle_in (given latest f)
handle_by (flush n) = 0
handle_by (disconnected_from n) = 0
handle_by promote = 0
handle_by promote_unchecked = 0

abbrev pub asks : Call → Bool
asks (on_frame_held f) = has_handle (given latest f)
asks (on_frame f) = has_handle (given latest f)
asks (flush n) = false
asks (disconnected_from n) = false
asks promote = false
asks promote_unchecked = false

-- ---- the counters: which calls leave each byte of them. Bytes that are no frame, every frame once promoted, flushes and drops do

abbrev pub keeps_by : Bool → Given → Bool
keeps_by promoted (damaged n) = true
keeps_by promoted (intact f) = promoted

abbrev pub keeps_counters : Replica → Call → Bool
keeps_counters c (on_frame_held f) = keeps_by (is_set c.promoted) (given (version_of c.version2) f)
keeps_counters c (on_frame f) = keeps_by (is_set c.promoted) (given (version_of c.version2) f)
keeps_counters c (flush n) = true
keeps_counters c (disconnected_from n) = true
keeps_counters c promote = false
keeps_counters c promote_unchecked = false

-- ---- a call's core by value, as it is proved: no entry point's promise cites what follows

pub record Stepped (s : Settings) (c : Replica) (seen : Lookup) (row : List BoundRecord) (call : Call) (w w' b b' : List ℕ) (h h' : Holds) (r : Outcome) : Type 0 where
  pub is : outcome_of latest (lengths_in seen h) s.shape w' b' h' r ≡ core_step (settings_of s (room_in seen h.bytes)) (core_at (counters_of c) s.shape w b) (found_in seen h) (rooms_in seen row (handle_by call)) call
  pub lands : Lands seen row (used_of w') (room_in seen h.bytes) (area_at (lengths_in seen h) (own_place seen) h') r.action
  pub kept : keeps_counters c call ≡ true → r.replica ≡ c
  pub rules : Rules s.shape w' b'
  pub more : used_of w ≤ used_of w'
  pub leaves : Leaves s.shape c (own_record seen).place call w w' b b' r.answer
  pub holds : h' ≡ holds_after (lengths_in seen h) (own_place seen) (closes_by (counters_of c) call) (writes_by (settings_of s (room_in seen h.bytes)) (counters_of c) (found_in seen h) call) h

-- 25 where the rules are broken; else the step, where the record found is of the call's handle, if the call has one
pub record StepIs (s : Settings) (c : Replica) (seen : Lookup) (row : List BoundRecord) (call : Call) (w w' b b' : List ℕ) (h h' : Holds) (r : Outcome) : Type 0 where
  pub refuses : seen_allowed s.shape seen w b h.bytes ≡ false → (r ≡ leaving c (is_refused Refusal.rules_broken)) × ((w' ≡ w) × ((b' ≡ b) × (h' ≡ h)))
  pub steps : seen_allowed s.shape seen w b h.bytes ≡ true → (is_found seen ≡ true → asks call ≡ true → (own_record seen).handle ≡ handle_by call) → Stepped s c seen row call w w' b b' h h' r
  pub exact : Exact b' r.answer
