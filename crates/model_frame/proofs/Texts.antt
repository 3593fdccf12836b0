-- What a frame's texts and blobs are made of, for the laws of reading and writing. Assumes nothing.
use Rattle.std.specs.Prelude.{T}
use Rattle.model_frame.specs.Bytes.{is_bytes}
use Rattle.model_frame.specs.Frame.{Key, Change, set_incoming, set_incoming_in_flight, set_in_flight, record_msg, record_bare, reset, set_created_at, set_marks, AppRecord, Summary, Frame, hello, welcome, bind, batch, ack, nack, bound, checked}
use Rattle.model_frame.specs.Parse.{Each}

abbrev pub ByteChange : Change → Type 0
ByteChange (set_incoming n) = Unit {0}
ByteChange (set_incoming_in_flight n f) = Unit {0}
ByteChange (set_in_flight f) = Unit {0}
ByteChange (record_msg n m) = T (is_bytes m)
ByteChange (record_bare n) = Unit {0}
ByteChange reset = Unit {0}
ByteChange (set_created_at t) = T (is_bytes t)
ByteChange (set_marks m) = T (is_bytes m)

abbrev pub ByteRecord : AppRecord → Type 0
ByteRecord r = T (is_bytes r.blob)

abbrev pub ByteKey : Key → Type 0
ByteKey k = T (is_bytes k.begin) × T (is_bytes k.sender) × T (is_bytes k.target) × T (is_bytes k.suffix)

abbrev pub ByteSummary : Summary → Type 0
ByteSummary m = T (is_bytes m.stamp_text) × T (is_bytes m.marks_text)

abbrev pub ByteFrame : Frame → Type 0
ByteFrame (hello v e node ks) = T (is_bytes node)
ByteFrame (welcome e i) = Unit {0}
ByteFrame (bind h e lag k) = ByteKey k
ByteFrame (batch h e n p cs rs) = Each ByteChange cs × Each ByteRecord rs
ByteFrame (ack h n) = Unit {0}
ByteFrame (nack h r) = Unit {0}
ByteFrame (bound h m) = ByteSummary m
ByteFrame (checked h e i) = Unit {0}
