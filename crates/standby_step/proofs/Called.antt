-- From what a core says, of what was found in the row, to what a call promises. Assumes nothing.
use mathlib.Core.Path.{◌≡◌, refl, sym, ap, subst, ◌∙◌}
use mathlib.Core.Bool.{Bool, true, false, cond, ◌&&◌, ◌||◌, true≢false}
use mathlib.Core.List.{List}
use mathlib.Core.Option.{Option, none, some}
use Prim.Native.Nat.{ℕ, ◌+◌, ◌*◌, ◌≤◌, ◌<◌, min}
use native.Mathlib.Omega.{arith}
use lib.Dec.{eqb, leb, ltb}
use lib.ListN.{length, get_or, set, length-set}
use borrow.Author.Tests.{ltb-true, ltb-false, lt-ltb}
use Rattle.base_laws.proofs.Little.{length_write}
use Rattle.std.specs.Prelude.{Option as RustOption}
use Rattle.std.specs.Prelude as prelude
use Rattle.standby_segments.specs.Segments.{Holds, Lengths, closed_ends}
use Rattle.standby_row.specs.declared.lookup.Lookup.{Lookup}
use Rattle.standby_row.specs.Row.{find_of, free_of, broken_of, rival_of, released, alone_at, spot_for, cleared_all, own_place, SeenOf}
use Rattle.standby_row.specs.Row as handles
use Rattle.standby_row.proofs.Lists.{cleared_length}
use Rattle.standby_handles.specs.Rows.{area_at, row_of}
use Rattle.standby_handles.proofs.Rows.{Apart, find_hit, find_miss, all_freed, apart_same, apart_of, put_own}
use Rattle.standby_handles.proofs.Apart.{rows_apart, room_same, put_alone}
use Rattle.store_areas.specs.Areas.{allowed, Rules, places_of}
use Rattle.store_areas.proofs.Ruling.{rules_true}
use Rattle.standby_pending.specs.Pending.{pending_of}
use Rattle.model_text.specs.Version.{latest}
use Rattle.model_standby.specs.Answer.{intact, refused}
use Rattle.model_frame.specs.Frame.{Part, Change, AppRecord, batch}
use Rattle.model_lowest.specs.Lowest.{handed_up}
use Rattle.frame_fields.specs.Answers.{flight_of}
use Rattle.base_flags.specs.Flag.{is_set}
use Rattle.standby_step.specs.Lowest.{call_tells, own_lowest, lowest_told}
use Rattle.standby_step.proofs.Lowest.{BytesOf, given_of, damaged_refused, batch_looks, told_call, hands_up, leaves_told}
use Rattle.standby_row.specs.declared.Bound.{Bound as BoundRecord}
use Rattle.model_standby.specs.Row.{Row, is_some, has_free, find, has_room, put}
use Rattle.model_standby.specs.State.{Bound, Standby, Result, Call, on_frame_held, on_frame, flush, disconnected_from, promote, promote_unchecked}
use Rattle.model_standby.specs.State as state
use Rattle.model_standby.specs.Standby.{step}
use Rattle.model_standby.specs.Hold.{HoldWrite}
use Rattle.model_standby.specs.Core.{Core, Action, store, rebind, CoreResult, act, acted, core_step, handle_of}
use Rattle.model_standby.specs.Handles.{apart, without_others, room_at}
use Rattle.model_standby.proofs.Factoring.{factored}
use Rattle.model_standby.proofs.RowKept.{apart_step}
use Rattle.model_standby.proofs.Rows.{find_put_same}
use Rattle.standby_part.specs.State.{bound_of, record_for, core_at}
use Rattle.standby_batch_handle.specs.Handling.{found_of}
use Rattle.standby_counters.specs.declared.Replica.{Replica}
use Rattle.standby_state.specs.declared.Settings.{Settings}
use Rattle.standby_state.specs.declared.Outcome.{Outcome}
use Rattle.standby_state.specs.Answers.{answer_of, is_refused, handing_up}
use Rattle.standby_state.proofs.Exact.{exact_plain}
use Rattle.standby_state.specs.declared.RowAction.{RowAction}
use Rattle.standby_state.specs.Outcomes.{counters_of, settings_of, leaving, spot_of, action_for, action_of, outcome_of, row_after, Fits, Rebinds, Lands}
use Rattle.standby_step.specs.Steps.{room_of, lengths_in, found_in, rooms_in, handle_by, asks, keeps_counters, Leaves, holds_after, closes_by, writes_by, Stepped, StepIs}
use Rattle.standby_step.specs.Calls.{room_all, lengths_all, standby_of, allowed_all, sought_by, RowChange, row_by, RowPut, RowRebound, RowLeaves, CalledSteps, Called}
use Rattle.standby_step.proofs.Naming.{sought_own}
use Rattle.standby_step.proofs.Fitting.{Fit, step_fit, step_any, writes_none, written_inside, leaves_any}
use Rattle.standby_step.proofs.Still.{refused_still}
use Rattle.standby_step.proofs.Doing.{kind_of, done_by}
use Rattle.standby_step.proofs.Rows.{Whole, whole_of, of_whole, whole_more, record_whole, whole_cleared, none_set, found_own, seen_found, seen_record, seen_place, seen_spot, seen_lengths, seen_allowed_lem, allowed_apart, and_l, and_r, whole_released, released_same, spot_alone, take_write, drop_write, take_end, drop_end, end_length}

no : {A : Type 0} → true ≡ false → A
no e = absurd (true≢false e)

-- the hold areas keep their lengths, and differ at one place
module _ (room : Lengths) (i : ℕ) (closes : Bool) where
  holds_length : (wr : Option HoldWrite) (h : Holds) → length (holds_after room i closes wr h).bytes ≡ length h.bytes
  holds_length none h = refl
  holds_length (some x) h = length_write h.bytes (i * room.bytes + x.offset) x.bytes

  ends_length : (wr : Option HoldWrite) (h : Holds) → length (holds_after room i closes wr h).ends ≡ length h.ends
  ends_length none h = refl
  ends_length (some x) h = go closes
    where
      go : (t : Bool) → length (holds_after room i t (some x) h).ends ≡ length h.ends
      go true = end_length room.ends i (closed_ends (area_at room i h).ends 0 x.offset) (x.offset + length x.bytes) h.ends
      go false = refl

  holds_apart : (wr : Option HoldWrite) (h : Holds) → ((x : HoldWrite) → wr ≡ some x → x.offset + length x.bytes ≤ room.bytes) → Apart (bound_of latest) room i h (holds_after room i closes wr h)
  holds_apart none h inside = apart_same (bound_of latest) room i h
  holds_apart (some x) h inside = go closes
    where
      fits : x.offset + length x.bytes ≤ room.bytes
      fits = inside x refl

      before : i * room.bytes ≤ i * room.bytes + x.offset
      before = omega arith

      after : i * room.bytes + x.offset + length x.bytes ≤ i * room.bytes + room.bytes
      after = omega (arith, fits)

      closed : List ℕ
      closed = closed_ends (area_at room i h).ends 0 x.offset

      go : (t : Bool) → Apart (bound_of latest) room i h (holds_after room i t (some x) h)
      go true =
          apart_of (bound_of latest) room i h (holds_after room i true (some x) h)
          (take_write h.bytes (i * room.bytes + x.offset) (i * room.bytes) x.bytes before)
          (drop_write h.bytes (i * room.bytes + x.offset) (i * room.bytes + room.bytes) x.bytes after)
          (take_end room.ends i closed (x.offset + length x.bytes) h.ends)
          (drop_end room.ends i closed (x.offset + length x.bytes) h.ends)
      go false =
          apart_of (bound_of latest) room i h (holds_after room i false (some x) h)
          (take_write h.bytes (i * room.bytes + x.offset) (i * room.bytes) x.bytes before)
          (drop_write h.bytes (i * room.bytes + x.offset) (i * room.bytes + room.bytes) x.bytes after)
          refl
          refl

-- the handle is the one by which the definition is cut
named : (call : Call) → handle_by call ≡ handle_of call
named (on_frame_held f) = refl
named (on_frame f) = refl
named (flush n) = refl
named (disconnected_from n) = refl
named promote = refl
named promote_unchecked = refl

module _ (row : List BoundRecord) (k : ℕ) (w : List ℕ) (h : Holds) (Looked : Lookup) (is : SeenOf row k (get_or w 0 0) (room_all row h.bytes) Looked) where
  abbrev Room : ℕ
  Room = room_all row h.bytes

  abbrev Each : Lengths
  Each = lengths_all row h

  abbrev Handles : Row Bound
  Handles = row_of (bound_of latest) Each row h

  -- ---- what was found

  abbrev Own : Bound
  Own = bound_of latest (get_or row (find_of row k) handles.free_record) (area_at Each (find_of row k) h)

  abbrev Seek : Bool → Option Bound
  Seek t = cond t (some Own) none

  sought : found_in Looked h ≡ Seek (ltb (find_of row k) (length row))
  sought =
      (λ j. found_of latest (seen_found row k (get_or w 0 0) Room is j) (seen_record row k (get_or w 0 0) Room is j) (area_at (seen_lengths row k (get_or w 0 0) Room is h j) (seen_place row k (get_or w 0 0) Room is j) h))

  found_in_lem : found_in Looked h ≡ find k Handles
  found_in_lem = sought ∙ go (ltb (find_of row k) (length row)) refl
    where
      go : (t : Bool) → ltb (find_of row k) (length row) ≡ t → Seek t ≡ find k Handles
      go true e = sym (find_hit (bound_of latest) Each k row h (ltb-true (find_of row k) (length row) e))
      go false e = sym (find_miss (bound_of latest) Each k row h (ltb-false (find_of row k) (length row) e))

  -- the row has room as the definition says
  rooms_are : (p : ℕ) → rooms_in Looked row k p ≡ room_at k Handles p
  rooms_are p = (λ j. prelude.is_some (is.own j) || (prelude.is_some (is.free j) || prelude.is_some (rival_of row k p))) ∙ sym (room_same (bound_of latest) Each (λ g y. refl) k p row h)

  found_core : (L : state.Settings) (x : Core) (call : Call) → core_step L x (found_in Looked h) (rooms_in Looked row k) call ≡ core_step L x (find k Handles) (room_at k Handles) call
  found_core L x call = (λ j. core_step L x (found_in_lem j) (λ p. rooms_are p j) call)

  -- a handle that was found has a place
  there : is_some (found_in Looked h) ≡ true → find_of row k < length row
  there f = ltb-true (find_of row k) (length row) (sym (seek_some (ltb (find_of row k) (length row))) ∙ sym (ap is_some sought) ∙ f)
    where
      seek_some : (t : Bool) → is_some (Seek t) ≡ t
      seek_some true = refl
      seek_some false = refl

  -- ---- what is done to the row

  -- the place that was found for a handle that is bound anew is that of the row in which no other has its place
  rebound_at : (x p : ℕ) → x ≡ k → (freed : RustOption ℕ) (at : ℕ) → freed ≡ rival_of row x p → at ≡ spot_of Looked freed → at ≡ spot_for (alone_at row x p) x
  rebound_at x p e freed at f g =
      g ∙ seen_spot row k (get_or w 0 0) Room is freed
      ∙ (λ j. cond (ltb (find_of row (sym e j)) (length row)) (find_of row (sym e j)) (min (free_of row) (prelude.unwrap_or (f j) (length row))))
      ∙ spot_alone row x p

  module _ (used : ℕ) (area : Holds) where
    next_whole : (o : RowAction) → Lands Looked row used Room area o → get_or w 0 0 ≤ used → Whole (get_or w 0 0) Room row → Whole used Room (row_after o row)
    next_whole RowAction.Leave l le n = whole_more (get_or w 0 0) used Room row le n
    next_whole RowAction.Clear l le n = whole_cleared used Room row
    next_whole (RowAction.Store at x) l le n =
        none_set (λ g. handles.breaks_of g used Room) row at x (record_whole x used Room l.slot_place l.slot_len) (whole_more (get_or w 0 0) used Room row le n)
    next_whole (RowAction.Rebind freed at x) l le n =
        none_set (λ g. handles.breaks_of g used Room) (released freed row) at x (record_whole x used Room l.slot_place (omega (arith, l.holds_none)))
        (whole_released used Room row freed (whole_more (get_or w 0 0) used Room row le n))

    module _ (own : ℕ) (asked : Bool) (rooms : ℕ → Bool) (closes : Bool) (wr : Option HoldWrite) (h' : Holds) (mine : asked ≡ true → k ≡ own) (holds : h' ≡ holds_after Each (find_of row k) closes wr h)
        (inside : (x : HoldWrite) → wr ≡ some x → x.offset + length x.bytes ≤ Room) (clean : handles.apart_of row ≡ true) (room : (p : ℕ) → rooms p ≡ true → asked ≡ true → room_at k Handles p ≡ true) where
      abbrev After : List BoundRecord → Holds → Row Bound
      After r x = row_of (bound_of latest) Each r x

      still : wr ≡ none → h' ≡ h
      still e = holds ∙ ap (λ (x : Option HoldWrite). holds_after Each (find_of row k) closes x h) e

      -- a record is put at its handle's own place
      puts : (at : ℕ) (x : BoundRecord) → Fits Looked used Room area at x → Fit asked own (found_in Looked h) rooms wr (store x.handle (bound_of latest x (area_at Each at h')))
          → After (set row at x) h' ≡ put x.handle (bound_of latest x (area_at Each at h')) Handles
      puts at x l f =
          (λ j. After (set row (at_own j) x) h')
          ∙ put_own (bound_of latest) Each k x (ap handles.is_used l.slot_is) is_k row h h' (there f.1.1)
          (subst (Apart (bound_of latest) Each (find_of row k) h) (sym holds) (holds_apart Each (find_of row k) closes wr h inside))
          ∙ sym (λ j. put (is_k j) (bound_of latest x (area_at Each (at_own j) h')) Handles)
        where
          is_k : x.handle ≡ k
          is_k = f.1.0 ∙ sym (mine f.0)

          at_own : at ≡ find_of row k
          at_own = l.at_is ∙ seen_place row k (get_or w 0 0) Room is

      -- a handle is bound anew, once no other has its place
      rebinds : (freed : RustOption ℕ) (at : ℕ) (x : BoundRecord) → Rebinds Looked row used freed at x
          → Fit asked own (found_in Looked h) rooms wr (rebind x.handle (bound_of latest x (area_at Each at h')))
          → After (set (released freed row) at x) h' ≡ put x.handle (bound_of latest x (area_at Each at h')) (without_others x.handle x.place Handles)
      rebinds freed at x l f =
          (λ j. After (set (released (l.freed_is j) row) (at_spot j) x) (same j))
          ∙ put_alone (bound_of latest) Each (λ g y. refl) x.handle x.place x (ap handles.is_used (l.slot_is h)) refl row h clean
          (ap (λ (n : ℕ). room_at n Handles x.place) is_k ∙ room x.place f.1.1.0 f.0)
          ∙ sym (λ j. put x.handle (bound_of latest x (area_at Each (at_spot j) (same j))) (without_others x.handle x.place Handles))
        where
          is_k : x.handle ≡ k
          is_k = f.1.0 ∙ sym (mine f.0)

          same : h' ≡ h
          same = still f.1.1.1

          at_spot : at ≡ spot_for (alone_at row x.handle x.place) x.handle
          at_spot = rebound_at x.handle x.place is_k freed at l.freed_is l.at_is

      next_handles : (o : RowAction) → Lands Looked row used Room area o → Fit asked own (found_in Looked h) rooms wr (action_for latest Each h' o)
          → After (row_after o row) h' ≡ act (action_for latest Each h' o) Handles
      next_handles RowAction.Leave l f = (λ i. After row (still f i))
      next_handles RowAction.Clear l f = (λ i. After (cleared_all row) (still f i)) ∙ all_freed (bound_of latest) Each row h
      next_handles (RowAction.Store at x) l f = puts at x l f
      next_handles (RowAction.Rebind freed at x) l f = rebinds freed at x l f

  next_length : (o : RowAction) → length (row_after o row) ≡ length row
  next_length RowAction.Leave = refl
  next_length RowAction.Clear = cleared_length 0 row
  next_length (RowAction.Store at x) = length-set row at x
  next_length (RowAction.Rebind freed at x) = length-set (released freed row) at x ∙ released_same freed row

-- ---- a call

module _ (s : Settings) (c : Replica) (row : List BoundRecord) (call : Call) (w w' b b' : List ℕ) (h h' : Holds) (o : Outcome) (See : Lookup) (seen : SeenOf row (sought_by call) (get_or w 0 0) (room_all row h.bytes) See) where
  abbrev K : ℕ
  K = sought_by call

  abbrev R : ℕ
  R = room_all row h.bytes

  abbrev E : Lengths
  E = lengths_all row h

  abbrev L : state.Settings
  L = settings_of s R

  abbrev T : Row Bound
  T = row_of (bound_of latest) E row h

  abbrev Row' : List BoundRecord
  Row' = row_after o.action row

  -- a call's core over the row itself
  record OverRow : Type 0 where
    is : outcome_of latest E s.shape w' b' h' o ≡ core_step L (core_at (counters_of c) s.shape w b) (found_in See h) (rooms_in See row (handle_by call)) call
    lands : Lands See row (get_or w' 0 0) R (area_at E (own_place See) h') o.action
    kept : keeps_counters c call ≡ true → o.replica ≡ c
    rules : Rules s.shape w' b'
    more : get_or w 0 0 ≤ get_or w' 0 0
    leaves : Leaves s.shape c (get_or row (find_of row K) handles.free_record).place call w w' b b' o.answer
    holds : h' ≡ holds_after E (find_of row K) (closes_by (counters_of c) call) (writes_by L (counters_of c) (found_in See h) call) h

  over_row : Stepped s c See row call w w' b b' h h' o → OverRow
  over_row st =
      let room : lengths_in See h ≡ E = seen_lengths row K (get_or w 0 0) R seen h in
      record {
        is =
            subst (λ (r : Lengths). outcome_of latest r s.shape w' b' h' o ≡ core_step (settings_of s r.bytes) (core_at (counters_of c) s.shape w b) (found_in See h) (rooms_in See row (handle_by call)) call) room st.is;
        lands = subst (λ (r : Lengths). Lands See row (get_or w' 0 0) r.bytes (area_at r (own_place See) h') o.action) room st.lands;
        kept = st.kept;
        rules = st.rules;
        more = st.more;
        leaves = subst (λ (x : BoundRecord). Leaves s.shape c x.place call w w' b b' o.answer) (seen_record row K (get_or w 0 0) R seen) st.leaves;
        holds = st.holds ∙ (λ j. holds_after (room j) (seen_place row K (get_or w 0 0) R seen j) (closes_by (counters_of c) call) (writes_by (settings_of s (room j).bytes) (counters_of c) (found_in See h) call) h);
      }

  module _ (clean : allowed_all s row w b h.bytes ≡ true) (st : OverRow) where
    abbrev Wr : Option HoldWrite
    Wr = writes_by L (counters_of c) (found_in See h) call

    row_same : length Row' ≡ length row
    row_same = next_length row K w h See seen o.action

    abbrev Closes : Bool
    Closes = closes_by (counters_of c) call

    holds_same : length h'.bytes ≡ length h.bytes
    holds_same = ap (λ (x : Holds). length x.bytes) st.holds ∙ holds_length E (find_of row K) Closes Wr h

    ends_same : length h'.ends ≡ length h.ends
    ends_same = ap (λ (x : Holds). length x.ends) st.holds ∙ ends_length E (find_of row K) Closes Wr h

    room_kept : room_all Row' h'.bytes ≡ R
    room_kept = (λ i. room_of (holds_same i) (row_same i))

    lengths_kept : lengths_all Row' h' ≡ E
    lengths_kept = λ i. record { bytes = room_kept i; ends = room_of (ends_same i) (row_same i) }

    -- the rules of the row
    row_rules : (handles.apart_of row && leb (length row) (broken_of row (get_or w 0 0) R)) ≡ true
    row_rules = and_r (allowed s.shape w b) (handles.apart_of row && leb (length row) (broken_of row (get_or w 0 0) R)) clean

    row_apart : handles.apart_of row ≡ true
    row_apart = and_l (handles.apart_of row) (leb (length row) (broken_of row (get_or w 0 0) R)) row_rules

    -- there is room for the call's handle where there is for the one looked up
    room_asked : (p : ℕ) → rooms_in See row (handle_by call) p ≡ true → asks call ≡ true → room_at K T p ≡ true
    room_asked p e a = sym (rooms_are row K w h See seen p) ∙ ap (λ (n : ℕ). rooms_in See row n p) (sought_own call a) ∙ e

    fits : Fit (asks call) (handle_by call) (found_in See h) (rooms_in See row (handle_by call)) Wr (action_of latest E h' o)
    fits =
        subst (Fit (asks call) (handle_by call) (found_in See h) (rooms_in See row (handle_by call)) Wr) (sym (ap (λ (r : CoreResult). r.action) st.is))
        (step_fit L (core_at (counters_of c) s.shape w b) (found_in See h) (rooms_in See row (handle_by call)) call)

    handles_are : row_of (bound_of latest) (lengths_all Row' h') Row' h' ≡ act (action_of latest E h' o) T
    handles_are =
        ap (λ (n : Lengths). row_of (bound_of latest) n Row' h') lengths_kept
        ∙ next_handles row K w h See seen (get_or w' 0 0) (area_at E (own_place See) h') (handle_by call) (asks call) (rooms_in See row (handle_by call)) Closes Wr h' (sought_own call) st.holds (written_inside L (counters_of c) (found_in See h) call)
        row_apart room_asked o.action st.lands fits

    -- what is found for the handle looked up is what is found for the call's
    found_own_core : core_step L (core_at (counters_of c) s.shape w b) (found_in See h) (rooms_in See row (handle_by call)) call
        ≡ core_step L (core_at (counters_of c) s.shape w b) (find (handle_by call) T) (room_at (handle_by call) T) call
    found_own_core =
        go (asks call) refl
      where
        go : (t : Bool) → asks call ≡ t → core_step L (core_at (counters_of c) s.shape w b) (found_in See h) (rooms_in See row (handle_by call)) call ≡ core_step L (core_at (counters_of c) s.shape w b) (find (handle_by call) T) (room_at (handle_by call) T) call
        go true e =
            ap (λ (k : ℕ). core_step L (core_at (counters_of c) s.shape w b) (found_in See h) (rooms_in See row k) call) (sym (sought_own call e))
            ∙ found_core row K w h See seen L (core_at (counters_of c) s.shape w b) call
            ∙ ap (λ (k : ℕ). core_step L (core_at (counters_of c) s.shape w b) (find k T) (room_at k T) call) (sought_own call e)
        go false e = step_any L (core_at (counters_of c) s.shape w b) (found_in See h) (find (handle_by call) T) (rooms_in See row (handle_by call)) (room_at (handle_by call) T) call e

    holds_own : h' ≡ holds_after E (find_of row (handle_by call)) Closes (writes_by L (counters_of c) (find (handle_by call) T) call) h
    holds_own = st.holds ∙ ap (λ (x : Option Bound). holds_after E (find_of row K) Closes (writes_by L (counters_of c) x call) h) (found_in_lem row K w h See seen) ∙ go (asks call) refl
      where
        go : (t : Bool) → asks call ≡ t → holds_after E (find_of row K) Closes (writes_by L (counters_of c) (find K T) call) h ≡ holds_after E (find_of row (handle_by call)) Closes (writes_by L (counters_of c) (find (handle_by call) T) call) h
        go true e = ap (λ (k : ℕ). holds_after E (find_of row k) Closes (writes_by L (counters_of c) (find k T) call) h) (sought_own call e)
        go false e =
            ap (λ (x : Option HoldWrite). holds_after E (find_of row K) Closes x h) (writes_none L (counters_of c) (find K T) call e)
            ∙ sym (ap (λ (x : Option HoldWrite). holds_after E (find_of row (handle_by call)) Closes x h) (writes_none L (counters_of c) (find (handle_by call) T) call e))

    leaves_own : Leaves s.shape c (get_or row (find_of row (handle_by call)) handles.free_record).place call w w' b b' o.answer
    leaves_own = go (asks call) refl
      where
        go : (t : Bool) → asks call ≡ t → Leaves s.shape c (get_or row (find_of row (handle_by call)) handles.free_record).place call w w' b b' o.answer
        go true e = subst (λ (k : ℕ). Leaves s.shape c (get_or row (find_of row k) handles.free_record).place call w w' b b' o.answer) (sought_own call e) st.leaves
        go false e = leaves_any s.shape c (get_or row (find_of row K) handles.free_record).place (get_or row (find_of row (handle_by call)) handles.free_record).place call w w' b b' o.answer e st.leaves

    -- ---- the row, record for record

    abbrev X : Standby
    X = standby_of s c row w b h

    stepped_is : step L X call ≡ acted T (core_step L (core_at (counters_of c) s.shape w b) (find (handle_by call) T) (room_at (handle_by call) T) call)
    stepped_is = factored L X call ∙ ap (λ (k : ℕ). acted T (core_step L (core_at (counters_of c) s.shape w b) (find k T) (room_at k T) call)) (sym (named call))

    -- what the definition leaves
    abbrev Leaving : Row Bound
    Leaving = (step L X call).state.handles

    after_is : Leaving ≡ act (action_of latest E h' o) T
    after_is = ap (λ (r : Result). r.state.handles) stepped_is ∙ ap (λ (r : CoreResult). act r.action T) (sym (st.is ∙ found_own_core))

    -- the handle is the one looked up, where a frame has one
    is_sought : {x : ℕ} → asks call ≡ true → x ≡ handle_by call → x ≡ K
    is_sought a e = e ∙ sym (sought_own call a)

    -- a record is put
    module _ (at : ℕ) (x : BoundRecord) (e : o.action ≡ RowAction.Store at x) where
      abbrev Puts : Action
      Puts = store x.handle (bound_of latest x (area_at E at h'))

      is_puts : action_of latest E h' o ≡ Puts
      is_puts = ap (action_for latest E h') e

      puts_fit : Fit (asks call) (handle_by call) (found_in See h) (rooms_in See row (handle_by call)) Wr Puts
      puts_fit = subst (Fit (asks call) (handle_by call) (found_in See h) (rooms_in See row (handle_by call)) Wr) is_puts fits

      is_k : x.handle ≡ K
      is_k = is_sought puts_fit.0 puts_fit.1.0

      found_k : is_some (find x.handle T) ≡ true
      found_k = ap (λ (k : ℕ). is_some (find k T)) is_k ∙ sym (ap is_some (found_in_lem row K w h See seen)) ∙ puts_fit.1.1

      has_room_so : has_room x.handle T ≡ true
      has_room_so = ap (λ (t : Bool). t || has_free T) found_k

      found_after : find x.handle Leaving ≡ some (bound_of latest x (area_at E at h'))
      found_after = ap (find x.handle) (after_is ∙ ap (λ (y : Action). act y T) is_puts) ∙ find_put_same x.handle (bound_of latest x (area_at E at h')) T has_room_so

      landed : Fits See (get_or w' 0 0) R (area_at E (own_place See) h') at x
      landed = subst (Lands See row (get_or w' 0 0) R (area_at E (own_place See) h')) e st.lands

      at_spot : at ≡ spot_for row x.handle
      at_spot =
          landed.at_is ∙ seen_place row K (get_or w 0 0) R seen ∙ ap (find_of row) (sym is_k)
          ∙ sym (ap (λ (t : Bool). cond t (find_of row x.handle) (free_of row)) (ap (λ (k : ℕ). ltb (find_of row k) (length row)) is_k ∙ lt-ltb (find_of row K) (length row) (there row K w h See seen puts_fit.1.1)))

      -- it is the record of what it stands for at its own place
      slot_own : x ≡ record_for x.handle (bound_of latest x (area_at E at h'))
      slot_own = landed.slot_is ∙ ap (λ (i : ℕ). record_for x.handle (bound_of latest x (area_at E i h'))) (sym landed.at_is)

      row_put : RowPut (spot_for row x.handle) x.handle (find x.handle Leaving) row (set row at x)
      row_put = subst (λ (y : Option Bound). RowPut (spot_for row x.handle) x.handle y row (set row at x)) (sym found_after) (λ j. set row (at_spot j) (slot_own j))

    -- a handle is bound anew
    module _ (freed : RustOption ℕ) (at : ℕ) (x : BoundRecord) (e : o.action ≡ RowAction.Rebind freed at x) where
      abbrev Binds : Action
      Binds = rebind x.handle (bound_of latest x (area_at E at h'))

      is_binds : action_of latest E h' o ≡ Binds
      is_binds = ap (action_for latest E h') e

      binds_fit : Fit (asks call) (handle_by call) (found_in See h) (rooms_in See row (handle_by call)) Wr Binds
      binds_fit = subst (Fit (asks call) (handle_by call) (found_in See h) (rooms_in See row (handle_by call)) Wr) is_binds fits

      bound_k : x.handle ≡ K
      bound_k = is_sought binds_fit.0 binds_fit.1.0

      room_so : room_at x.handle T x.place ≡ true
      room_so = ap (λ (k : ℕ). room_at k T x.place) bound_k ∙ room_asked x.place binds_fit.1.1.0 binds_fit.0

      bound_after : find x.handle Leaving ≡ some (bound_of latest x (area_at E at h'))
      bound_after = ap (find x.handle) (after_is ∙ ap (λ (y : Action). act y T) is_binds) ∙ find_put_same x.handle (bound_of latest x (area_at E at h')) (without_others x.handle x.place T) room_so

      bound_so : Rebinds See row (get_or w' 0 0) freed at x
      bound_so = subst (Lands See row (get_or w' 0 0) R (area_at E (own_place See) h')) e st.lands

      bound_at : at ≡ spot_for (alone_at row x.handle x.place) x.handle
      bound_at = rebound_at row K w h See seen x.handle x.place bound_k freed at bound_so.freed_is bound_so.at_is

      row_rebound : RowRebound x.handle (find x.handle Leaving) row (set (released freed row) at x)
      row_rebound =
          subst (λ (y : Option Bound). RowRebound x.handle y row (set (released freed row) at x)) (sym bound_after)
          (λ j. set (released (bound_so.freed_is j) row) (bound_at j) (bound_so.slot_is (area_at E at h') j))

    row_done : RowLeaves (kind_of (action_of latest E h' o)) Leaving row Row'
    row_done = go o.action refl
      where
        by : {a : RowAction} → o.action ≡ a → RowLeaves (kind_of (action_for latest E h' a)) Leaving row (row_after a row) → RowLeaves (kind_of (action_of latest E h' o)) Leaving row Row'
        by e = subst (λ (y : RowAction). RowLeaves (kind_of (action_for latest E h' y)) Leaving row (row_after y row)) (sym e)

        go : (a : RowAction) → o.action ≡ a → RowLeaves (kind_of (action_of latest E h' o)) Leaving row Row'
        go RowAction.Leave e = by e refl
        go RowAction.Clear e = by e refl
        go (RowAction.Store at x) e = by e (row_put at x e)
        go (RowAction.Rebind freed at x) e = by e (row_rebound freed at x e)

    row_by_lem : RowLeaves (row_by (counters_of c) call (step L X call).answer) Leaving row Row'
    row_by_lem =
        subst (λ (x : RowChange). RowLeaves x Leaving row Row')
        (ap (λ (r : CoreResult). kind_of r.action) (st.is ∙ found_own_core) ∙ done_by L (core_at (counters_of c) s.shape w b) (find (handle_by call) T) (room_at (handle_by call) T) call
        ∙ ap (row_by (counters_of c) call) (sym (ap (λ (r : Result). r.answer) stepped_is)))
        row_done

    still_row : (n : ℕ) → answer_of b' o.answer ≡ refused n → eqb n 17 ≡ false → Row' ≡ row
    still_row n e f =
        subst (λ (x : RowChange). RowLeaves x Leaving row Row')
        (ap (λ (r : CoreResult). kind_of r.action) (st.is ∙ found_own_core)
        ∙ ap kind_of (refused_still L (core_at (counters_of c) s.shape w b) (find (handle_by call) T) (room_at (handle_by call) T) call n (sym (ap (λ (r : CoreResult). r.answer) (st.is ∙ found_own_core)) ∙ e) f))
        row_done

    -- the definition keeps the row's rule, and so does the call
    apart_after : handles.apart_of Row' ≡ true
    apart_after =
        rows_apart (bound_of latest) E (λ g y. refl) Row' h'
        ∙ ap (λ (n : Lengths). apart (row_of (bound_of latest) n Row' h')) (sym lengths_kept)
        ∙ ap apart (handles_are ∙ sym after_is)
        ∙ apart_step L X call (allowed_apart s c row w b h clean)

    allowed_after : allowed_all s Row' w' b' h'.bytes ≡ true
    allowed_after =
        (λ i. rules_true s.shape w' b' st.rules i && (apart_after i && leb (length Row') (broken_of Row' (get_or w' 0 0) (room_kept i))))
        ∙ of_whole (get_or w' 0 0) R Row'
        (next_whole row K w h See seen (get_or w' 0 0) (area_at E (own_place See) h') o.action st.lands st.more (whole_of (get_or w 0 0) R row (and_r (handles.apart_of row) (leb (length row) (broken_of row (get_or w 0 0) R)) row_rules)))

    -- ---- the lowest message on hand

    answer_core : answer_of b' o.answer ≡ (core_step L (core_at (counters_of c) s.shape w b) (found_in See h) (rooms_in See row (handle_by call)) call).answer
    answer_core = ap (λ (r : CoreResult). r.answer) st.is

    step_is : record { state = record { counters = counters_of o.replica; places = places_of s.shape w' b'; handles = row_of (bound_of latest) (lengths_all Row' h') Row' h'; pending = pending_of w' }; answer = answer_of b' o.answer } ≡ step L X call
    step_is =
        (λ i. record {
          state = record { counters = counters_of o.replica; places = places_of s.shape w' b'; handles = handles_are i; pending = pending_of w' };
          answer = answer_of b' o.answer;
        })
        ∙ ap (acted T) (st.is ∙ found_own_core)
        ∙ sym stepped_is

    looked_for : (k e n : ℕ) (p : Part) (cs : List Change) (apps : List AppRecord) → given_of (counters_of c).version call ≡ some (intact (batch k e n p cs apps)) → find k T ≡ found_in See h
    looked_for k e n p cs apps g =
        let l = batch_looks (counters_of c).version call g in
        ap (λ (j : ℕ). find j T) (sym (sought_own call l.asked ∙ l.named)) ∙ sym (found_in_lem row K w h See seen)

    told : BytesOf call → flight_of (lowest_told s See call w' b' o.answer) ≡ handed_up (is_set s.tells_lowest) X call (step L X call)
    told bytes =
        told_call (is_set s.tells_lowest) s.shape w' b' (area_at (lengths_in See h) (own_place See) h) See o.answer X (step L X call) (counters_of c).version (rules_true s.shape w' b' st.rules)
        (ap (λ (r : Result). r.answer) (sym step_is)) (ap (λ (r : Result). r.state.places) (sym step_is)) refl call bytes
        (λ n g. answer_core ∙ damaged_refused L (core_at (counters_of c) s.shape w b) (found_in See h) (rooms_in See row (handle_by call)) call n g)
        looked_for

    called_steps : BytesOf call → CalledSteps s call c o.replica row Row' w w' b b' h h' (handing_up (lowest_told s See call w' b' o.answer) o.answer)
    called_steps bytes =
        record {
          is = step_is;
          allowed = allowed_after;
          leaves = leaves_told s.shape c (get_or row (find_of row (handle_by call)) handles.free_record).place call w w' b b' (lowest_told s See call w' b' o.answer) o.answer leaves_own;
          holds = holds_own;
          row_leaves = row_by_lem;
          row_still = still_row;
          row_length = row_same;
          counters_kept = st.kept;
          holds_length = holds_same;
          ends_length = ends_same;
          lowest = hands_up (lowest_told s See call w' b' o.answer) o.answer (told bytes);
        }

  -- a refusal hands nothing up
  refused_told : (n : ℕ) → eqb n 0 ≡ false → lowest_told s See call w' b' (is_refused n) ≡ RustOption.None
  refused_told n e = ap (λ (t : Bool). cond ((t && false) && call_tells (is_set s.tells_lowest) call) (own_lowest s.shape w' b' See.own) RustOption.None) e

  pub called : BytesOf call → StepIs s c See row call w w' b b' h h' o → Called s call c o.replica row Row' w w' b b' h h' (handing_up (lowest_told s See call w' b' o.answer) o.answer)
  called bytes p =
      record {
        refuses = λ e. refused (p.refuses (seen_allowed_lem s row K w b h.bytes seen ∙ e));
        steps = λ e.
            called_steps e
            (over_row
            (p.steps (seen_allowed_lem s row K w b h.bytes seen ∙ e)
            (λ f a.
            ap (λ (x : BoundRecord). x.handle) (seen_record row K (get_or w 0 0) R seen) ∙ found_own row K (ltb-true (find_of row K) (length row) (sym (seen_found row K (get_or w 0 0) R seen) ∙ f)) ∙ sought_own call a)))
            bytes;
        exact = exact_plain b' o.answer p.exact;
      }
    where
      refused : (o ≡ leaving c (is_refused 25)) × ((w' ≡ w) × ((b' ≡ b) × (h' ≡ h)))
          → (handing_up (lowest_told s See call w' b' o.answer) o.answer ≡ is_refused 25) × ((o.replica ≡ c) × ((Row' ≡ row) × ((w' ≡ w) × ((b' ≡ b) × (h' ≡ h)))))
      refused q = (
        (λ i. handing_up (lowest_told s See call w' b' (q.0 i).answer) (q.0 i).answer) ∙ ap (λ (t : RustOption ℕ). handing_up t (is_refused 25)) (refused_told 25 refl),
        (
          ap (λ (x : Outcome). x.replica) q.0,
          (
            ap (λ (x : Outcome). row_after x.action row) q.0,
            q.1,
          ),
        ),
      )
