-- What a frame that is no Batch leaves and answers. Assumes nothing.
use Rattle.std.specs.Prelude.{ℕ, ◌≤◌, ◌≡◌, Bool, false, cond, not, List, set}
use Rattle.std.proofs.Math.Option.{Option}
use Rattle.model_frame.specs.Frame.{Frame, hello, welcome, bind, batch, ack, nack, bound, checked}
use Rattle.model_frame.specs.Parse.{is_empty}
use Rattle.standby_segments.specs.Segments.{Holds, Lengths}
use Rattle.standby_row.specs.declared.Bound.{Bound as BoundRecord}
use Rattle.standby_row.specs.declared.lookup.Lookup.{Lookup}
use Rattle.standby_row.specs.Row.{own_record}
use Rattle.store_areas.specs.StoreWord
use Rattle.store_areas.specs.Areas.{Rules, places_of, used_of}
use Rattle.standby_pending.specs.Pending.{count_of, pending_of}
use Rattle.standby_commit.specs.Settling.{StoreAfter}
use Rattle.model_standby.specs.Answer.{intact, handle_in, accepted}
use Rattle.model_standby.specs.State.{Bound}
use Rattle.model_standby.specs.Core.{core_run, core_intact}
use Rattle.standby_part.specs.State.{core_at}
use Rattle.standby_counters.specs.declared.Replica.{Replica}
use Rattle.standby_state.specs.declared.Settings.{Settings}
use Rattle.standby_state.specs.declared.Outcome.{Outcome}
use Rattle.standby_state.specs.Answers.{answer_of}
use Rattle.standby_state.specs.Exact.{Exact}
use Rattle.standby_state.specs.Outcomes.{counters_of, settings_of, outcome_of, Lands}
use Rattle.standby_bind.specs.Binding.{Short}
use Rattle.standby_step.specs.Steps.{rooms_in, changes_by, FrameLeaves}

-- neither Bind nor Batch
abbrev pub Plain : Frame → Type 0
Plain (hello v e node kinds) = Unit {0}
Plain (welcome e i) = Unit {0}
Plain (bind h e lag k) = ⊥
Plain (batch h e n part cs apps) = ⊥
Plain (ack h n) = Unit {0}
Plain (nack h r) = Unit {0}
Plain (bound h m) = Unit {0}
Plain (checked h e i) = Unit {0}

-- no Batch, and a Bind with a key of short texts
abbrev pub Fit : Frame → Type 0
Fit (hello v e node kinds) = Unit {0}
Fit (welcome e i) = Unit {0}
Fit (bind h e lag k) = Short k
Fit (batch h e n part cs apps) = ⊥
Fit (ack h n) = Unit {0}
Fit (nack h r) = Unit {0}
Fit (bound h m) = Unit {0}
Fit (checked h e i) = Unit {0}

abbrev pub cleared_if : Bool → List ℕ → List ℕ
cleared_if t w = cond t (set w StoreWord.pending 0) w

-- equal to the definition, whatever the hold areas and the record found; what is left of the store is said where no commit is pending
pub record OtherIs (s : Settings) (c : Replica) (seen : Lookup) (row : List BoundRecord) (f : Frame) (w w' b b' : List ℕ) (r : Outcome) : Type 0 where
  pub is : (version : ℕ) (room : Lengths) (holds : Holds) (o : Option Bound)
      → outcome_of version room s.shape w' b' holds r ≡ core_intact (settings_of s room.bytes) (core_at (counters_of c) s.shape w b) o (rooms_in seen row (handle_in (intact f))) f
  pub lands : (room : ℕ) (area : Holds) → Lands seen row (used_of w') room area r.action
  pub rules : Rules s.shape w' b'
  pub more : used_of w ≤ used_of w'
  pub store_after : count_of w ≡ 0 → StoreAfter s.shape (changes_by (places_of s.shape w b) (own_record seen).place (intact f) (accepted (answer_of b' r.answer))) w w' b b'
  pub exact : Exact b' r.answer

-- the same, after the pending commits
pub record OtherIn (s : Settings) (c : Replica) (seen : Lookup) (row : List BoundRecord) (f : Frame) (w w' b b' : List ℕ) (r : Outcome) : Type 0 where
  pub is : (version : ℕ) (room : Lengths) (holds : Holds) (o : Option Bound)
      → outcome_of version room s.shape w' b' holds r
      ≡ core_intact (settings_of s room.bytes) (core_run (not (is_empty (pending_of w))) (core_at (counters_of c) s.shape w b)) o (rooms_in seen row (handle_in (intact f))) f
  pub lands : (room : ℕ) (area : Holds) → Lands seen row (used_of w') room area r.action
  pub rules : Rules s.shape w' b'
  pub more : used_of w ≤ used_of w'
  pub leaves : FrameLeaves s.shape (changes_by (places_of s.shape w b) (own_record seen).place (intact f) (accepted (answer_of b' r.answer))) (not (is_empty (pending_of w))) false w w' b b'
  pub exact : Exact b' r.answer
