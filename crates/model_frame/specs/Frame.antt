-- The frames of document 01's table as values, the eight changes, and the faults of reading with their numbers. Assumes nothing.
use Rattle.std.specs.Prelude.{ℕ, List}
use Rattle.std.proofs.Math.Option.{Option}
use Rattle.model_frame.specs.Refusal

-- the four texts of a session's key
pub record Key : Type 0 where
  pub begin : List ℕ
  pub sender : List ℕ
  pub target : List ℕ
  pub suffix : List ℕ

-- the changes 1 to 8; 4 is a Record with its message, 5 one without
pub data Change : Type 0 where
  set_incoming : ℕ → Change
  set_incoming_in_flight : ℕ → ℕ → Change
  set_in_flight : ℕ → Change
  record_msg : ℕ → List ℕ → Change
  record_bare : ℕ → Change
  reset : Change
  set_created_at : List ℕ → Change
  set_marks : List ℕ → Change

pub data Part : Type 0 where
  commit whole last_whole : Part

pub data Reason : Type 0 where
  stale_epoch diverged lag_too_great restarted : Reason

-- an application record: kind and bytes
pub record AppRecord : Type 0 where
  pub kind : ℕ
  pub blob : List ℕ

-- what a Bound says of a session; the stamp is empty for none
pub record Summary : Type 0 where
  pub next_out : ℕ
  pub next_in : ℕ
  pub in_flight : Option ℕ
  pub stamp_text : List ℕ
  pub marks_text : List ℕ
  pub last_outgoing : ℕ

pub data Frame : Type 0 where
  -- version, epoch, node, kinds
  hello : ℕ → ℕ → List ℕ → List ℕ → Frame
  -- epoch, incarnation
  welcome : ℕ → ℕ → Frame
  -- handle, epoch, max_lag, key
  bind : ℕ → ℕ → ℕ → Key → Frame
  -- handle, epoch, commit number, part, changes, application records
  batch : ℕ → ℕ → ℕ → Part → List Change → List AppRecord → Frame
  -- handle, commit number
  ack : ℕ → ℕ → Frame
  -- handle, reason
  nack : ℕ → Reason → Frame
  -- handle, summary
  bound : ℕ → Summary → Frame
  -- handle, epoch, incarnation
  checked : ℕ → ℕ → ℕ → Frame

-- what has an unknown byte
pub data Field : Type 0 where
  frameKind part refusal change : Field

pub data Fault : Type 0 where
  too_long : ℕ → Fault
  truncated : Fault
  unknown : Field → ℕ → Fault
  bad_text bad_session bad_timestamp bad_marks : Fault

-- document 01's number of a fault
abbrev pub fault_number : Fault → ℕ
fault_number (too_long n) = Refusal.too_long
fault_number truncated = Refusal.truncated
fault_number (unknown f n) = Refusal.unknown_byte
fault_number bad_text = Refusal.bad_text
fault_number bad_session = Refusal.bad_session
fault_number bad_timestamp = Refusal.bad_timestamp
fault_number bad_marks = Refusal.bad_marks

-- what the reader says of bytes: more needed, the first fault, or a frame and how many bytes it took
pub data Decoded : Type 0 where
  more : Decoded
  faulty : Fault → Decoded
  got : Frame → ℕ → Decoded
