-- The rules of a state that the operations keep, and what is handed in: for theorems (Ruling.antt). No promise of the code cites them.
-- Assumes nothing.
use mathlib.Core.Path.{◌≡◌}
use Prim.Native.Nat.{ℕ, ◌≤◌, ◌<◌}
use mathlib.Core.List.{List, []}
use mathlib.Core.Bool.{true, ◌||◌}
use lib.ListN.{length}
use lib.Dec.{T}
use Rattle.model_session.proofs.Storable.{Storable}
use Rattle.model_text.specs.Version.{latest}
use Rattle.model_frame.specs.Frame.{Change, Frame, hello, welcome, bind, batch, ack, nack, bound, checked}
use Rattle.model_frame.specs.Parse.{is_empty, Each}
use Rattle.model_frame.specs.Writing.{Writable}
use Rattle.model_frame.specs.Sizes.{sizes}
use Rattle.model_session.specs.Session.{Holdable, is_bytes, message_bytes, top}
use Rattle.model_standby.specs.Row.{Used}
use Rattle.model_standby.specs.Store.{Place}
use Rattle.model_standby.specs.State.{Settings, Bound, Standby, Call, on_frame_held, on_frame, flush, disconnected_from, promote, promote_unchecked}
use Rattle.model_standby.specs.Handles.{apart}
use Rattle.model_standby.specs.Standby.{starts_with_reset, max_whole}

-- ---- what is handed in are bytes

abbrev pub OkCall : Call → Type 0
OkCall (on_frame_held w) = T (is_bytes w)
OkCall (on_frame w) = T (is_bytes w)
OkCall (flush n) = Unit {0}
OkCall (disconnected_from n) = Unit {0}
OkCall promote = Unit {0}
OkCall promote_unchecked = Unit {0}

abbrev pub changes_of : Frame → List Change
changes_of (hello v e node kinds) = []
changes_of (welcome e i) = []
changes_of (bind h e lag k) = []
changes_of (batch h e n p cs apps) = cs
changes_of (ack h n) = []
changes_of (nack h r) = []
changes_of (bound h m) = []
changes_of (checked h e i) = []

-- what reading lets pass: it can be written, and its changes can be stored
pub record Readable (f : Frame) : Type 0 where
  pub writable : Writable latest f
  pub storable : Each Storable (changes_of f)

-- ---- the rules of a state

-- of a handle, with n session places
pub record BoundValid (L : Settings) (n : ℕ) (b : Bound) : Type 0 where
  pub place_there : b.place < n
  pub number_u64 : b.number ≤ top
  pub bytes_u64 : b.bytes ≤ top
  pub held_small : sizes b.held ≤ L.room
  pub held_ok : Each Storable b.held

-- of a state, with `Also` asked of its handles
pub record StateRules (L : Settings) (Also : Bound → Type 0) (s : Standby) : Type 0 where
  pub epoch_u64 : s.counters.epoch ≤ top
  pub connections_u64 : s.counters.connections ≤ top
  pub places_few : length s.places ≤ L.S
  pub sessions_ok : Each (λ (x : Place). Holdable L.C L.M x.stored.session) s.places
  pub handles_ok : Each (Used (BoundValid L (length s.places))) s.handles
  pub handles_also : Each (Used Also) s.handles
  -- one handle for a session
  pub row_apart : apart s.handles ≡ true
  pub pending_few : length s.pending ≤ 64

-- what every content of the areas is that docs/AREAS.md allows
abbrev pub Valid : Settings → Standby → Type 0
Valid L s = StateRules L (λ _. Unit {0}) s

-- of a handle that the operations made
pub record BoundUsual (b : Bound) : Type 0 where
  -- nothing held: no byte sum; else a Reset in front
  pub none_sum : b.held ≡ [] → b.bytes ≡ 0
  pub held_begins : (is_empty b.held || starts_with_reset b.held) ≡ true
  -- the byte sum may stay raised by a 17
  pub sum_low : message_bytes b.held ≤ b.bytes
  pub held_few : message_bytes b.held ≤ max_whole

-- what every state is that a new standby reaches
abbrev pub Usual : Settings → Standby → Type 0
Usual L s = StateRules L BoundUsual s
