-- How many bytes a change, a record and a body take: lengths of what Writing writes, each shown by proofs/Sizes. For contracts and proofs. Assumes nothing.
use Rattle.std.specs.Prelude.{ℕ, ◌+◌, ◌*◌, List, [], ◌∷◌, length}
use Rattle.model_frame.specs.Frame.{Change, set_incoming, set_incoming_in_flight, set_in_flight, record_msg, record_bare, reset, set_created_at, set_marks, AppRecord, Frame, hello, welcome, bind, batch, ack, nack, bound, checked}

-- a change's: that of `change_bytes` (`change_size`)
abbrev pub size_of : Change → ℕ
size_of (set_incoming n) = 9
size_of (set_incoming_in_flight n f) = 17
size_of (set_in_flight f) = 9
size_of (record_msg q w) = 13 + length w
size_of (record_bare q) = 9
size_of reset = 1
size_of (set_created_at t) = 5 + length t
size_of (set_marks m) = 5 + length m

abbrev pub sizes : List Change → ℕ
sizes [] = 0
sizes (c ∷ cs) = size_of c + sizes cs

-- records' and a body's; a frame's is 4 more

abbrev pub record_sizes : List AppRecord → ℕ
record_sizes [] = 0
record_sizes (r ∷ rs) = 6 + length r.blob + record_sizes rs

abbrev pub body_size : Frame → ℕ
body_size (hello v e node ks) = 19 + length node + 2 * length ks
body_size (welcome e i) = 17
body_size (bind h e lag k) = 37 + length k.begin + length k.sender + length k.target + length k.suffix
body_size (batch h e n p cs rs) = 30 + sizes cs + record_sizes rs
body_size (ack h n) = 13
body_size (nack h r) = 6
body_size (bound h m) = 45 + length m.stamp_text + length m.marks_text
body_size (checked h e i) = 21
