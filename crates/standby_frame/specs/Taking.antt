-- Taking a frame, once the rules hold. Assumes nothing.
use Rattle.std.specs.Prelude.{ℕ, ◌≤◌, ◌≡◌, Bool, true, false, not, ◌&&◌, List, eqb}
use Rattle.model_frame.specs.Frame.{Frame}
use Rattle.standby_segments.specs.Segments.{Holds}
use Rattle.standby_handles.specs.Rows.{area_at}
use Rattle.standby_row.specs.declared.Bound.{Bound as BoundRecord}
use Rattle.standby_row.specs.declared.lookup.Lookup.{Lookup}
use Rattle.standby_row.specs.Row.{own_place, own_record}
use Rattle.store_areas.specs.Areas.{Rules, places_of, used_of}
use Rattle.standby_pending.specs.Pending.{pending_of}
use Rattle.model_text.specs.Version.{latest}
use Rattle.model_standby.specs.Answer.{intact, given, handle_in, accepted}
use Rattle.model_standby.specs.State.{on_frame_held}
use Rattle.model_standby.specs.Standby.{due}
use Rattle.model_standby.specs.Hold.{writes_frame}
use Rattle.model_standby.specs.Core.{core_run, core_intact}
use Rattle.standby_part.specs.State.{core_at}
use Rattle.standby_counters.specs.declared.Replica.{Replica}
use Rattle.standby_state.specs.declared.Settings.{Settings}
use Rattle.standby_state.specs.declared.Answer.{Answer}
use Rattle.standby_state.specs.declared.Outcome.{Outcome}
use Rattle.standby_state.specs.Answers.{answer_of}
use Rattle.standby_state.specs.Exact.{Exact}
use Rattle.standby_state.specs.Outcomes.{counters_of, settings_of, outcome_of, Lands}
use Rattle.standby_step.specs.Steps.{room_in, lengths_in, is_found, found_in, rooms_in, changes_by, FrameLeaves, holds_after, closes_given, has_handle, Stepped}

-- a frame is answered, a Nack too
abbrev pub is_answered : Answer → Bool
is_answered a = eqb a.refusal 0 && not (eqb a.kind 0)

-- the record found is the frame's handle's, if the frame has one
abbrev pub Own : Lookup → Frame → Type 0
Own seen f = is_found seen ≡ true → has_handle (intact f) ≡ true → (own_record seen).handle ≡ handle_in (intact f)

pub record IntactIs (s : Settings) (c : Replica) (seen : Lookup) (row : List BoundRecord) (f : Frame) (w w' b b' : List ℕ) (h h' : Holds) (r : Outcome) : Type 0 where
  pub is : Own seen f
      → outcome_of latest (lengths_in seen h) s.shape w' b' h' r
      ≡ core_intact (settings_of s (room_in seen h.bytes)) (core_run (due (pending_of w) f) (core_at (counters_of c) s.shape w b)) (found_in seen h) (rooms_in seen row (handle_in (intact f))) f
  pub lands : Lands seen row (used_of w') (room_in seen h.bytes) (area_at (lengths_in seen h) (own_place seen) h') r.action
  pub rules : Rules s.shape w' b'
  pub more : used_of w ≤ used_of w'
  pub leaves : FrameLeaves s.shape (changes_by (places_of s.shape w b) (own_record seen).place (intact f) (accepted (answer_of b' r.answer))) (due (pending_of w) f) false w w' b b'
  pub holds : Own seen f → h' ≡ holds_after (lengths_in seen h) (own_place seen) (closes_given (intact f)) (writes_frame (settings_of s (room_in seen h.bytes)) (counters_of c) (found_in seen h) f) h
  pub exact : Exact b' r.answer

pub record Takes (s : Settings) (c : Replica) (seen : Lookup) (row : List BoundRecord) (frame w w' b b' : List ℕ) (h h' : Holds) (r : Outcome) : Type 0 where
  pub rules : Rules s.shape w' b'
  pub steps : (is_found seen ≡ true → has_handle (given latest frame) ≡ true → (own_record seen).handle ≡ handle_in (given latest frame)) → Stepped s c seen row (on_frame_held frame) w w' b b' h h' r
  pub exact : Exact b' r.answer
