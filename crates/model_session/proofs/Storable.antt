-- A change whose incoming and in-flight numbers, message bytes, stamp or marks the store can hold; of a Record's number nothing is asked here, as `fits` judges it.
-- Assumes nothing.
use Rattle.std.specs.Prelude.{◌≤◌, T}
use Rattle.model_text.specs.Printable.{is_marks}
use Rattle.model_text.specs.Stamp.{is_stamp}
use Rattle.model_frame.specs.Bytes.{is_bytes}
use Rattle.model_frame.specs.Frame.{Change, set_incoming, set_incoming_in_flight, set_in_flight, record_msg, record_bare, reset, set_created_at, set_marks}
use Rattle.model_session.specs.Session.{top}

abbrev pub Storable : Change → Type 0
Storable (set_incoming n) = n ≤ top
Storable (set_incoming_in_flight n f) = (n ≤ top) × (f ≤ top)
Storable (set_in_flight f) = f ≤ top
Storable (record_msg q w) = T (is_bytes w)
Storable (record_bare q) = Unit {0}
Storable reset = Unit {0}
Storable (set_created_at t) = T (is_stamp t)
Storable (set_marks m) = T (is_marks m)
