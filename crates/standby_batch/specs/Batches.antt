-- A Batch on what was found for its handle, over one hold area. Assumes nothing.
use Rattle.std.specs.Prelude.{ℕ, ◌<◌, ◌≤◌, ◌≡◌, Bool, true, cond, ◌&&◌, List, length, eqb, is_some}
use Rattle.std.specs.Prelude.{Some, None}
use Rattle.std.specs.Prelude as prelude
use Rattle.std.proofs.Math.Option.{Option, none, some}
use Rattle.base_refusals.specs.Numbers.{number_of}
use Rattle.model_frame.specs.ReasonByte
use Rattle.model_frame.specs.Frame.{Change, AppRecord, batch}
use Rattle.model_frame.specs.Frame as the_frame
use Rattle.frame_fields.specs.declared.CommitNumber.{CommitNumber}
use Rattle.frame_fields.specs.declared.Epoch.{Epoch}
use Rattle.standby_segments.specs.Segments.{Holds, with_run}
use Rattle.standby_row.specs.declared.Bound.{Bound as BoundRecord}
use Rattle.standby_row.specs.declared.lookup.Lookup.{Lookup}
use Rattle.standby_row.specs.Row.{own_record}
use Rattle.store_areas.specs.Areas.{Rules, used_of}
use Rattle.standby_commit.specs.Settling.{batch_change, StoreAfter}
use Rattle.model_text.specs.Version.{latest}
use Rattle.model_standby.specs.Answer.{accepted}
use Rattle.model_standby.specs.State.{Bound}
use Rattle.model_standby.specs.Hold.{HoldWrite, writes_frame}
use Rattle.model_standby.specs.Core.{Action, leave, store, core_batch}
use Rattle.standby_part.specs.declared.PartResult.{PartResult}
use Rattle.standby_part.specs.State.{bound_of, core_at}
use Rattle.standby_batch_handle.specs.Handling.{is_whole, found_of}
use Rattle.standby_counters.specs.declared.Replica.{Replica}
use Rattle.standby_state.specs.declared.Settings.{Settings}
use Rattle.standby_state.specs.declared.Answer.{Answer}
use Rattle.standby_state.specs.declared.Outcome.{Outcome}
use Rattle.standby_state.specs.declared.RowAction.{RowAction}
use Rattle.standby_state.specs.Answers.{answer_of, is_refused, is_nack, is_ack}
use Rattle.standby_state.specs.Exact.{Exact}
use Rattle.standby_state.specs.Outcomes.{counters_of, settings_of, leaving, storing, stores, Fits}

abbrev pub epoch_to : Replica → Epoch → Replica
epoch_to c e = record { epoch = e; connections = c.connections; promoted = c.promoted; checked = c.checked; version2 = c.version2 }

-- the record that was found is the handle's
abbrev pub found_for : Lookup → ℕ → Bool
found_for seen h = is_some seen.own && eqb (own_record seen).handle h

-- the record that was found, if it is the handle's
abbrev pub bound_for : Lookup → ℕ → prelude.Option BoundRecord
bound_for seen h = cond (found_for seen h) (Some (own_record seen)) None

abbrev pub answer_by : PartResult → ℕ → CommitNumber → Answer
answer_by (PartResult.Refused e) h n = is_refused (number_of e)
answer_by (PartResult.RefusedHolding e x) h n = is_refused (number_of e)
answer_by (PartResult.Diverged x) h n = is_nack h ReasonByte.diverged
answer_by (PartResult.Accepted x) h n = is_ack h n

abbrev pub settled_of : Replica → Lookup → PartResult → ℕ → CommitNumber → Outcome
settled_of c seen (PartResult.Refused e) h n = leaving c (is_refused (number_of e))
settled_of c seen (PartResult.RefusedHolding e x) h n = storing c seen (is_refused (number_of e)) h x
settled_of c seen (PartResult.Diverged x) h n = storing c seen (is_nack h ReasonByte.diverged) h x
settled_of c seen (PartResult.Accepted x) h n = storing c seen (is_ack h n) h x

-- the record found names a place in use, and holds no more than its area has
pub record RecordRules (seen : Lookup) (w : List ℕ) (area : Holds) : Type 0 where
  pub place_used : (own_record seen).place < used_of w
  pub held_within : (own_record seen).held_len ≤ length area.bytes

-- the hold area with what is written there, of a Whole or not
abbrev pub hold_area_with : Bool → Option HoldWrite → Holds → Holds
hold_area_with closes none area = area
hold_area_with closes (some x) area = with_run closes x.offset x.bytes area

abbrev pub found_at : Lookup → ℕ → Holds → Option Bound
found_at seen h area = found_of latest (found_for seen h) (own_record seen) area

-- the record that is put, over the hold area of its place
abbrev pub put_in : Holds → RowAction → Action
put_in area RowAction.Leave = leave
put_in area RowAction.Clear = leave
put_in area (RowAction.Store at x) = store x.handle (bound_of latest x area)
put_in area (RowAction.Rebind freed at x) = leave

-- the row stays as it was, or the record that is put fits it; nothing else is done to it
abbrev pub Puts : Lookup → ℕ → ℕ → Holds → RowAction → Type 0
Puts seen used room area RowAction.Leave = Unit
Puts seen used room area RowAction.Clear = ⊥
Puts seen used room area (RowAction.Store at x) = Fits seen used room area at x
Puts seen used room area (RowAction.Rebind freed at x) = ⊥

-- equal to the definition
pub record BatchIs (s : Settings) (c : Replica) (seen : Lookup) (h e n : ℕ) (part : the_frame.Part) (cs : List Change) (apps : List AppRecord) (w w' b b' : List ℕ) (area area' : Holds) (r : Outcome) : Type 0 where
  pub is : record {
    core = core_at (counters_of r.replica) s.shape w' b';
    action = put_in area' r.action;
    answer = answer_of b' r.answer;
  }
      ≡ core_batch (settings_of s (length area.bytes)) (core_at (counters_of c) s.shape w b) (found_at seen h area) h e n part cs apps
  pub puts : Puts seen (used_of w') (length area.bytes) area' r.action
  pub stored : stores r.action ≡ true → found_for seen h ≡ true
  pub rules : Rules s.shape w' b'
  pub used : used_of w' ≡ used_of w
  pub store_after : StoreAfter s.shape (batch_change h (own_record seen).place part (accepted (answer_of b' r.answer))) w w' b b'
  pub area_is : area' ≡ hold_area_with (is_whole part) (writes_frame (settings_of s (length area.bytes)) (counters_of c) (found_at seen h area) (batch h e n part cs apps)) area
  pub exact : Exact b' r.answer
