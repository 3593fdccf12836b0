-- What a Bind leaves and answers. Assumes nothing.
use Rattle.std.specs.Prelude.{ℕ, ◌<◌, ◌≤◌, ◌≡◌, true, List, length}
use Rattle.model_frame.specs.Frame.{Key}
use Rattle.standby_row.specs.declared.Bound.{Bound}
use Rattle.standby_row.specs.declared.lookup.Lookup.{Lookup}
use Rattle.standby_row.specs.Row.{rival_of}
use Rattle.standby_segments.specs.Segments.{Holds, Lengths}
use Rattle.store_areas.specs.declared.Shape.{Shape}
use Rattle.store_areas.specs.Areas.{Rules, place_at, places_of, used_of}
use Rattle.standby_pending.specs.Pending.{pending_of}
use Rattle.standby_commit.specs.Settling.{bind_change, StoreAfter}
use Rattle.model_standby.specs.Answer.{accepted}
use Rattle.model_standby.specs.Store.{place_of, is_stored, session_at, or_new, opened}
use Rattle.model_standby.specs.Core.{core_bind}
use Rattle.store_place.specs.PlaceByte
use Rattle.standby_part.specs.State.{core_at}
use Rattle.standby_counters.specs.declared.Replica.{Replica}
use Rattle.standby_state.specs.declared.Settings.{Settings}
use Rattle.standby_state.specs.declared.Outcome.{Outcome}
use Rattle.standby_state.specs.Answers.{answer_of}
use Rattle.standby_state.specs.Exact.{Exact}
use Rattle.standby_state.specs.Outcomes.{counters_of, settings_of, room_for, outcome_of, Lands}

-- texts of at most 32 bytes
pub record Short (k : Key) : Type 0 where
  pub begin : length k.begin ≤ PlaceByte.key_text_size
  pub sender : length k.sender ≤ PlaceByte.key_text_size
  pub target : length k.target ≤ PlaceByte.key_text_size
  pub suffix : length k.suffix ≤ PlaceByte.key_text_size

abbrev pub new_handle : ℕ → ℕ → Bound
new_handle h place = record { used = 1; handle = h; place = place; commit_no = record { 0 = 0 }; held_len = 0; held_bytes = 0 }

-- the session of a key is there, new if it wasn't
pub record BindOpens (s : Shape) (k : Key) (w w' b b' : List ℕ) : Type 0 where
  pub places : places_of s w' b' ≡ opened k (places_of s w b)
  pub pending : pending_of w' ≡ pending_of w
  pub rules : Rules s w' b'
  pub more : used_of w ≤ used_of w'
  pub there : place_of k (places_of s w b) < used_of w'
  pub session : (place_at s w' b' (place_of k (places_of s w b))).stored.session ≡ or_new (session_at (places_of s w b) (place_of k (places_of s w b)))
  pub store_after : StoreAfter s (bind_change (place_of k (places_of s w b)) (is_stored k (places_of s w b)) true) w w' b b'

-- equal to the definition, whatever the hold areas
pub record BindIs (s : Settings) (c : Replica) (seen : Lookup) (row : List Bound) (h e lag : ℕ) (k : Key) (w w' b b' : List ℕ) (r : Outcome) : Type 0 where
  pub is : (version : ℕ) (room : Lengths) (holds : Holds) → outcome_of version room s.shape w' b' holds r ≡ core_bind (settings_of s room.bytes) (core_at (counters_of c) s.shape w b) (λ p. room_for seen (rival_of row h p)) h e lag k
  pub lands : (room : ℕ) (area : Holds) → Lands seen row (used_of w') room area r.action
  pub rules : Rules s.shape w' b'
  pub more : used_of w ≤ used_of w'
  pub store_after : StoreAfter s.shape (bind_change (place_of k (places_of s.shape w b)) (is_stored k (places_of s.shape w b)) (accepted (answer_of b' r.answer))) w w' b b'
  pub exact : Exact b' r.answer
