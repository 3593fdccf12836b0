-- A Batch, after the commits that are due, over the hold areas of all places. Assumes nothing.
use Rattle.std.specs.Prelude.{ℕ, ◌<◌, ◌≤◌, ◌≡◌, Bool, true, false, ◌||◌, List, length, get_or, leb}
use Rattle.model_frame.specs.Frame.{Change, AppRecord, batch}
use Rattle.model_frame.specs.Frame as the_frame
use Rattle.standby_segments.specs.Segments.{Holds}
use Rattle.standby_handles.specs.Rows.{area_at}
use Rattle.standby_batch_handle.specs.Handling.{is_whole}
use Rattle.standby_row.specs.declared.lookup.Lookup.{Lookup}
use Rattle.standby_row.specs.Row.{at_or, own_place, own_record}
use Rattle.store_areas.specs.Areas.{Rules}
use Rattle.standby_pending.specs.Pending.{pending_of}
use Rattle.standby_commit.specs.Settling.{batch_change}
use Rattle.model_text.specs.Version.{latest}
use Rattle.model_standby.specs.Answer.{accepted}
use Rattle.model_standby.specs.Standby.{pends_on}
use Rattle.model_standby.specs.Hold.{writes_frame}
use Rattle.model_standby.specs.Core.{core_run, core_batch}
use Rattle.standby_part.specs.State.{core_at}
use Rattle.standby_counters.specs.declared.Replica.{Replica}
use Rattle.standby_state.specs.declared.Settings.{Settings}
use Rattle.standby_state.specs.declared.Outcome.{Outcome}
use Rattle.standby_state.specs.Answers.{answer_of}
use Rattle.standby_state.specs.Exact.{Exact}
use Rattle.standby_state.specs.Outcomes.{counters_of, settings_of, outcome_of}
use Rattle.standby_batch.specs.Batches.{Puts}
use Rattle.standby_step.specs.Steps.{room_in, lengths_in, is_found, found_in, FrameLeaves, holds_after}

-- the place of the record found, or 0
abbrev pub spot_in : Lookup → ℕ
spot_in seen = at_or seen.own 0

-- the record found names a place in use, and holds no more than its area has
pub record RecordRulesIn (seen : Lookup) (w : List ℕ) (h : Holds) : Type 0 where
  pub place_used : (own_record seen).place < get_or w 0 0
  pub held_within : (own_record seen).held_len ≤ room_in seen h.bytes

abbrev pub due_batch : ℕ → List ℕ → Bool
due_batch h w = leb 64 (length (pending_of w)) || pends_on h (pending_of w)

-- equal to the definition, where the record found is the handle's
pub record BatchIn (s : Settings) (c : Replica) (seen : Lookup) (h e n : ℕ) (part : the_frame.Part) (cs : List Change) (apps : List AppRecord) (w w' b b' : List ℕ) (l l' : Holds) (r : Outcome) : Type 0 where
  pub is : (is_found seen ≡ true → (own_record seen).handle ≡ h)
      → outcome_of latest (lengths_in seen l) s.shape w' b' l' r
      ≡ core_batch (settings_of s (room_in seen l.bytes)) (core_run (due_batch h w) (core_at (counters_of c) s.shape w b)) (found_in seen l) h e n part cs apps
  pub puts : Puts seen (get_or w' 0 0) (room_in seen l.bytes) (area_at (lengths_in seen l) (own_place seen) l') r.action
  pub rules : Rules s.shape w' b'
  pub used : get_or w' 0 0 ≡ get_or w 0 0
  pub leaves : FrameLeaves s.shape (batch_change h (own_record seen).place part (accepted (answer_of b' r.answer))) (due_batch h w) false w w' b b'
  pub holds : (is_found seen ≡ true → (own_record seen).handle ≡ h)
      → l' ≡ holds_after (lengths_in seen l) (own_place seen) (is_whole part) (writes_frame (settings_of s (room_in seen l.bytes)) (counters_of c) (found_in seen l) (batch h e n part cs apps)) l
  pub exact : Exact b' r.answer
