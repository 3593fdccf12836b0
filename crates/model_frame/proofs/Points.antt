-- Points that tell near definitions apart, as one table: bytes, what reading
-- says of them in version 1, and document 01's number if they are refused (0: they aren't). Assumes nothing.
use Prim.Native.Nat.{ℕ}
use mathlib.Core.Path.{◌≡◌, refl}
use mathlib.Core.List.{List, [], ◌∷◌, ◌++◌}
use mathlib.Core.Option.{none, some}
use Rattle.model_text.specs.Utf8.{utf8, well_formed, lead_length, own_bits, least, fitting, is_scalar, is_surrogate, is_tail}
use Rattle.model_text.specs.Printable.{is_printable_byte, is_printable, is_marks, is_key}
use Rattle.model_text.specs.Calendar.{is_leap, month_days}
use Rattle.model_text.specs.Stamp.{is_digit, is_pair, has_digits, day_exists, is_short, is_stamp, takes_stamp}
use Rattle.model_frame.specs.Bytes.{le}
use Rattle.model_frame.specs.Frame.{record_msg, record_bare, reset, set_created_at, commit, whole, last_whole, stale_epoch, hello, bind, batch, nack, bound, frameKind, part, refusal, change, too_long, truncated, unknown, bad_text, bad_session, bad_timestamp, bad_marks, fault_number, Decoded, more, faulty, got}
use Rattle.model_frame.specs.Parse.{read_bytes, read_num, read_blob, read_text, read_count, many}
use Rattle.model_frame.specs.Reading.{read_stamp, read_stamp_or_none, read_marks, set_incoming_fields, set_incoming_in_flight_fields, set_in_flight_fields, record_msg_fields, record_bare_fields, set_created_at_fields, set_marks_fields, read_change, read_changes, read_kinds, read_app_record, read_app_records, read_part, read_reason, read_key, read_summary, hello_fields, welcome_fields, bind_fields, batch_fields, ack_fields, nack_fields, bound_fields, checked_fields, read_fields, read_body, decode}

pub record Point : Type 0 where
  pub input : List ℕ
  pub says : Decoded
  pub refused : ℕ

abbrev pub point : List ℕ → Decoded → ℕ → Point
point s d n = record { input = s; says = d; refused = n }

-- what reading answers, with the number of a refusal
abbrev pub answer : Decoded → Decoded × ℕ
answer more = (more, 0)
answer (faulty e) = (faulty e, fault_number e)
answer (got f n) = (got f n, 0)

abbrev pub answered : List Point → List (Decoded × ℕ)
answered [] = []
answered (p ∷ ps) = answer (decode 1 p.input) ∷ answered ps

abbrev pub expected : List Point → List (Decoded × ℕ)
expected [] = []
expected (p ∷ ps) = (p.says, p.refused) ∷ expected ps

-- ---- bytes that several points share: numbers below 256, and the front of a frame of a kind

abbrev u16 : ℕ → List ℕ
u16 n = n ∷ 0 ∷ []

abbrev u32 : ℕ → List ℕ
u32 n = n ∷ 0 ∷ 0 ∷ 0 ∷ []

abbrev u64 : ℕ → List ℕ
u64 n = n ∷ 0 ∷ 0 ∷ 0 ∷ 0 ∷ 0 ∷ 0 ∷ 0 ∷ []

-- a Hello of version 1 and epoch 5, a Bind of handle 9, epoch 5 and max_lag 2, a Batch of handle 9, epoch 5 and commit number 3
abbrev hello_front : ℕ → List ℕ
hello_front size = u32 size ++ (1 ∷ []) ++ u16 1 ++ u64 5

abbrev bind_front : ℕ → List ℕ
bind_front size = u32 size ++ (3 ∷ []) ++ u32 9 ++ u64 5 ++ u64 2

abbrev batch_front : ℕ → List ℕ
batch_front size = u32 size ++ (4 ∷ []) ++ u32 9 ++ u64 5 ++ u64 3

-- 20240229-23:59:60, 20240229-24:00:00
abbrev leap_second : List ℕ
leap_second = 50 ∷ 48 ∷ 50 ∷ 52 ∷ 48 ∷ 50 ∷ 50 ∷ 57 ∷ 45 ∷ 50 ∷ 51 ∷ 58 ∷ 53 ∷ 57 ∷ 58 ∷ 54 ∷ 48 ∷ []

abbrev hour24 : List ℕ
hour24 = 50 ∷ 48 ∷ 50 ∷ 52 ∷ 48 ∷ 50 ∷ 50 ∷ 57 ∷ 45 ∷ 50 ∷ 52 ∷ 58 ∷ 48 ∷ 48 ∷ 58 ∷ 48 ∷ 48 ∷ []

-- the bytes of document 01's starred points; the table of all twelve is `starred` in crates/model_standby/specs/Starred.antt
abbrev pub first_points : List Point
first_points =
    point [] more 0
    ∷ point (0 ∷ 0 ∷ 0 ∷ 0 ∷ []) (faulty truncated) 2
    ∷ point (0 ∷ 0 ∷ 0 ∷ 4 ∷ []) more 0
    ∷ point (1 ∷ 0 ∷ 0 ∷ 4 ∷ []) (faulty (too_long 67108865)) 1
    ∷ point (6 ∷ 0 ∷ 0 ∷ 0 ∷ 6 ∷ 9 ∷ 0 ∷ 0 ∷ 0 ∷ 1 ∷ []) (got (nack 9 stale_epoch) 10) 0
    ∷ point (6 ∷ 0 ∷ 0 ∷ 0 ∷ 6 ∷ 9 ∷ 0 ∷ 0 ∷ 0 ∷ 5 ∷ []) (faulty (unknown refusal 5)) 3
    ∷ point (hello_front 23 ++ u32 4 ++ (0xF4 ∷ 0x8F ∷ 0xBF ∷ 0xBF ∷ []) ++ u32 0) (got (hello 1 5 (0xF4 ∷ 0x8F ∷ 0xBF ∷ 0xBF ∷ []) []) 27) 0
    ∷ point (hello_front 22 ++ u32 3 ++ (0xED ∷ 0xA0 ∷ 0x80 ∷ []) ++ u32 0) (faulty bad_text) 4
    ∷ point (batch_front 52 ++ (0 ∷ []) ++ u32 1 ++ (7 ∷ []) ++ u32 17 ++ leap_second ++ u32 0) (got (batch 9 5 3 commit (set_created_at leap_second ∷ []) []) 56) 0
    ∷ point (batch_front 52 ++ (0 ∷ []) ++ u32 1 ++ (7 ∷ []) ++ u32 17 ++ hour24 ++ u32 0) (faulty bad_timestamp) 6
    ∷ []

-- further points
abbrev pub nearby : List Point
nearby =
    -- a byte short; two frames; a byte left over in the body
    point (6 ∷ 0 ∷ 0 ∷ 0 ∷ 6 ∷ 9 ∷ 0 ∷ 0 ∷ 0 ∷ []) more 0
    ∷ point (6 ∷ 0 ∷ 0 ∷ 0 ∷ 6 ∷ 9 ∷ 0 ∷ 0 ∷ 0 ∷ 1 ∷ 6 ∷ 0 ∷ []) (got (nack 9 stale_epoch) 10) 0
    ∷ point (7 ∷ 0 ∷ 0 ∷ 0 ∷ 6 ∷ 9 ∷ 0 ∷ 0 ∷ 0 ∷ 1 ∷ 1 ∷ []) (faulty truncated) 2
    -- unknown kind, part, change
    ∷ point (1 ∷ 0 ∷ 0 ∷ 0 ∷ 9 ∷ []) (faulty (unknown frameKind 9)) 3
    ∷ point (batch_front 30 ++ (3 ∷ []) ++ u32 0 ++ u32 0) (faulty (unknown part 3)) 3
    ∷ point (batch_front 31 ++ (2 ∷ []) ++ u32 1 ++ (9 ∷ []) ++ u32 0) (faulty (unknown change 9)) 3
    -- counts: as many bytes as are needed; the items' faults come later than a count that is too great
    ∷ point (hello_front 22 ++ u32 1 ++ (97 ∷ []) ++ u32 1 ++ (44 ∷ 1 ∷ [])) (got (hello 1 5 (97 ∷ []) (300 ∷ [])) 26) 0
    ∷ point (batch_front 35 ++ (2 ∷ []) ++ u32 5 ++ (6 ∷ 6 ∷ 6 ∷ 6 ∷ 6 ∷ []) ++ u32 0) (got (batch 9 5 3 last_whole (reset ∷ reset ∷ reset ∷ reset ∷ reset ∷ []) []) 39) 0
    ∷ point (batch_front 27 ++ (2 ∷ []) ++ u32 2 ++ (9 ∷ [])) (faulty truncated) 2
    ∷ point (batch_front 36 ++ (1 ∷ []) ++ u32 0 ++ u32 1 ++ (44 ∷ 1 ∷ []) ++ u32 0) (got (batch 9 5 3 whole [] (record { kind = 300; blob = [] } ∷ [])) 40) 0
    -- a Record with an empty message, and one without; a message longer than what is left
    ∷ point (batch_front 52 ++ (0 ∷ []) ++ u32 2 ++ (4 ∷ []) ++ u64 1 ++ u32 0 ++ (5 ∷ []) ++ u64 2 ++ u32 0) (got (batch 9 5 3 commit (record_msg 1 [] ∷ record_bare 2 ∷ []) []) 56) 0
    ∷ point (batch_front 43 ++ (0 ∷ []) ++ u32 1 ++ (4 ∷ []) ++ u64 1 ++ u32 5 ++ u32 0) (faulty truncated) 2
    -- marks; a key, one with an empty sender, and one whose suffix is no text besides, which comes first
    ∷ point (batch_front 36 ++ (0 ∷ []) ++ u32 1 ++ (8 ∷ []) ++ u32 1 ++ (31 ∷ []) ++ u32 0) (faulty bad_marks) 7
    ∷ point (bind_front 40 ++ u32 1 ++ (70 ∷ []) ++ u32 1 ++ (83 ∷ []) ++ u32 1 ++ (84 ∷ []) ++ u32 0) (got (bind 9 5 2 (record { begin = 70 ∷ []; sender = 83 ∷ []; target = 84 ∷ []; suffix = [] })) 44) 0
    ∷ point (bind_front 39 ++ u32 1 ++ (70 ∷ []) ++ u32 0 ++ u32 1 ++ (84 ∷ []) ++ u32 0) (faulty bad_session) 5
    ∷ point (bind_front 40 ++ u32 1 ++ (70 ∷ []) ++ u32 0 ++ u32 1 ++ (84 ∷ []) ++ u32 1 ++ (0x80 ∷ [])) (faulty bad_text) 4
    -- in flight: none, and a number
    ∷ point (u32 46 ++ (7 ∷ []) ++ u32 9 ++ u64 3 ++ u64 4 ++ u64 0 ++ u32 0 ++ u32 1 ++ (66 ∷ []) ++ u64 8) (got (bound 9 (record { next_out = 3; next_in = 4; in_flight = none; stamp_text = []; marks_text = 66 ∷ []; last_outgoing = 8 })) 50) 0
    ∷ point (u32 45 ++ (7 ∷ []) ++ u32 9 ++ u64 3 ++ u64 4 ++ u64 2 ++ u32 0 ++ u32 0 ++ u64 8) (got (bound 9 (record { next_out = 3; next_in = 4; in_flight = some 2; stamp_text = []; marks_text = []; last_outgoing = 8 })) 49) 0
    ∷ []

pub points : answered (first_points ++ nearby) ≡ expected (first_points ++ nearby)
unfolding decode le read_num read_bytes read_blob read_text read_count many read_body read_fields hello_fields welcome_fields bind_fields batch_fields ack_fields nack_fields bound_fields checked_fields read_kinds read_changes read_change set_incoming_fields set_incoming_in_flight_fields set_in_flight_fields record_msg_fields record_bare_fields set_created_at_fields set_marks_fields read_app_records read_app_record read_part read_reason read_key read_summary read_stamp read_stamp_or_none read_marks utf8 well_formed lead_length own_bits least fitting is_scalar is_surrogate is_tail is_printable_byte is_printable is_marks is_key is_digit is_pair is_short is_stamp has_digits day_exists month_days is_leap takes_stamp
points = refl
