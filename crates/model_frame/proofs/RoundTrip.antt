-- Reading a frame that was written gives that frame and the bytes it took, whatever stands after it. Assumes nothing.
use mathlib.Core.Path.{◌≡◌, refl, ap, ◌∙◌}
use mathlib.Core.Bool.{true, ◌&&◌, ◌||◌}
use mathlib.Core.List.{List, [], ◌∷◌, ◌++◌, append_assoc, append-nil}
use mathlib.Core.Option.{Option, none, some}
use Prim.Native.Nat.{ℕ, ◌+◌, ◌-◌, ◌*◌, ◌^◌, ◌≤◌, ◌<◌}
use native.Mathlib.Nat.{mod-eq_of_lt}
use native.Mathlib.Omega.{arith}
use borrow.Author.Tests.{le-ltb, ne_eqb}
use lib.ListN.{length, length-append}
use lib.Seq.{take_at, drop_at}
pub use Rattle.std.specs.Cmp.{first_so as and_left, second_so as and_right}
use Rattle.model_frame.proofs.Sendable.{Sendable, NoZeroFlight}
use Rattle.model_text.specs.Utf8.{utf8}
use Rattle.model_text.specs.Printable.{is_marks, is_key}
use Rattle.model_text.specs.Stamp.{takes_stamp}
use Rattle.model_frame.specs.Bytes.{le, bytes_of}
use Rattle.model_frame.specs.Frame.{Key, Change, set_incoming, set_incoming_in_flight, set_in_flight, record_msg, record_bare, reset, set_created_at, set_marks, Part, commit, whole, last_whole, Reason, stale_epoch, diverged, lag_too_great, restarted, AppRecord, Summary, Frame, hello, welcome, bind, batch, ack, nack, bound, checked, got}
use Rattle.model_frame.specs.Parse.{is_empty, ok, read_num, many, run_bytes, Each}
use Rattle.model_frame.specs.Reading.{max_body, read_stamp, read_stamp_or_none, read_marks, set_incoming_fields, set_incoming_in_flight_fields, set_in_flight_fields, record_msg_fields, record_bare_fields, set_created_at_fields, set_marks_fields, read_change, read_changes, read_kinds, read_app_record, read_app_records, read_part, read_reason, read_key, flight, read_summary, hello_fields, welcome_fields, bind_fields, batch_fields, ack_fields, nack_fields, bound_fields, checked_fields, read_fields, read_body, decode}
use Rattle.model_frame.specs.Writing.{blob_bytes, change_bytes, app_record_bytes, part_number, reason_number, flight_number, key_bytes, summary_bytes, body_bytes, encode, fine_change, all_fine, fine_key, fine_summary, fine, RangedChange, RangedRecord, RangedKey, RangedSummary, Ranged, Writable, no_zero, shown}
use Rattle.model_frame.proofs.Le.{length_bytes, le_bytes}
use Rattle.model_frame.proofs.Back.{num_back, byte_back, blob_back, text_back, count_back, run_back, run_long}

-- ---- the changes

stamp_back : (version : ℕ) (t rest : List ℕ) → length t < 2 ^ 32 → (utf8 t && takes_stamp version t) ≡ true → read_stamp version (blob_bytes t ++ rest) ≡ ok t rest
unfolding read_stamp
stamp_back version t rest h e = rw (text_back t rest h (and_left (utf8 t) (takes_stamp version t) e), and_right (utf8 t) (takes_stamp version t) e)

marks_back : (t rest : List ℕ) → length t < 2 ^ 32 → (utf8 t && is_marks t) ≡ true → read_marks (blob_bytes t ++ rest) ≡ ok t rest
unfolding read_marks
marks_back t rest h e = rw (text_back t rest h (and_left (utf8 t) (is_marks t) e), and_right (utf8 t) (is_marks t) e)

pub change_back : (version : ℕ) (c : Change) (rest : List ℕ) → Sendable version c → read_change version (change_bytes c ++ rest) ≡ ok c rest
unfolding read_change change_bytes set_incoming_fields set_incoming_in_flight_fields set_in_flight_fields record_msg_fields record_bare_fields set_created_at_fields set_marks_fields
change_back version (set_incoming n) rest h = rw (byte_back, num_back 8 n rest h.0)
change_back version (set_incoming_in_flight n f) rest h = rw (append_assoc, byte_back, num_back 8 n _ h.0.0, num_back 8 f rest h.0.1)
change_back version (set_in_flight f) rest h = rw (byte_back, num_back 8 f rest h.0)
change_back version (record_msg n m) rest h = rw (append_assoc, byte_back, num_back 8 n _ h.0.0, blob_back m rest h.0.1)
change_back version (record_bare n) rest h = rw (byte_back, num_back 8 n rest h.0)
change_back version reset rest h = rw byte_back
change_back version (set_created_at t) rest h = rw (byte_back, stamp_back version t rest h.0 h.1)
change_back version (set_marks m) rest h = rw (byte_back, marks_back m rest h.0 h.1)

-- a change has a byte at least, a record six
change_long : (c : Change) → 1 ≤ length (change_bytes c)
unfolding change_bytes
change_long (set_incoming n) = omega arith
change_long (set_incoming_in_flight n f) = omega arith
change_long (set_in_flight f) = omega arith
change_long (record_msg n m) = omega arith
change_long (record_bare n) = omega arith
change_long reset = omega arith
change_long (set_created_at t) = omega arith
change_long (set_marks m) = omega arith

pub each_sendable : (version : ℕ) (cs : List Change) → Each RangedChange cs → all_fine version cs ≡ true → Each (Sendable version) cs
each_sendable version [] r e = tt
each_sendable version (c ∷ cs) r e =
    ((r.0, and_left (fine_change version c) (all_fine version cs) e), each_sendable version cs r.1 (and_right (fine_change version c) (all_fine version cs) e))

pub changes_back : (version : ℕ) (cs : List Change) (rest : List ℕ) → Each (Sendable version) cs → many (length cs) (read_change version) (run_bytes change_bytes cs ++ rest) ≡ ok cs rest
changes_back version cs rest h = run_back (read_change version) change_bytes (Sendable version) (change_back version) cs rest h

counted_changes_back :
    (version : ℕ) (cs : List Change) (rest : List ℕ) → length cs < 2 ^ 32 → Each (Sendable version) cs →
    read_changes version (bytes_of 4 (length cs) ++ (run_bytes change_bytes cs ++ rest)) ≡ ok cs rest
unfolding read_changes
counted_changes_back version cs rest h each =
    let fits : length cs * 1 ≤ length (run_bytes change_bytes cs ++ rest) =
    omega (arith, run_long change_bytes 1 change_long cs, length-append (run_bytes change_bytes cs) rest) in
    rw (count_back 1 (length cs) (run_bytes change_bytes cs ++ rest) h fits, changes_back version cs rest each)

-- ---- parts of frames

kinds_back : (ks rest : List ℕ) → length ks < 2 ^ 32 → Each (λ (n : ℕ). n < 2 ^ 16) ks → read_kinds (bytes_of 4 (length ks) ++ (run_bytes (bytes_of 2) ks ++ rest)) ≡ ok ks rest
unfolding read_kinds
kinds_back ks rest h each =
    let two : (n : ℕ) → 2 ≤ length (bytes_of 2 n) = λ n. omega (arith, length_bytes 2 n) in
    let fits : length ks * 2 ≤ length (run_bytes (bytes_of 2) ks ++ rest) =
    omega (arith, run_long (bytes_of 2) 2 two ks, length-append (run_bytes (bytes_of 2) ks) rest) in
    rw (count_back 2 (length ks) (run_bytes (bytes_of 2) ks ++ rest) h fits, run_back (read_num 2) (bytes_of 2) (λ (n : ℕ). n < 2 ^ 16) (λ n rest h. num_back 2 n rest h) ks rest each)

record_back : (r : AppRecord) (rest : List ℕ) → RangedRecord r → read_app_record (app_record_bytes r ++ rest) ≡ ok r rest
unfolding read_app_record app_record_bytes
record_back r rest h = rw (append_assoc, num_back 2 r.kind _ h.0, blob_back r.blob rest h.1)

record_long : (r : AppRecord) → 6 ≤ length (app_record_bytes r)
unfolding app_record_bytes blob_bytes
record_long r = simp (length-append, length_bytes) (omega arith)

records_back : (rs : List AppRecord) (rest : List ℕ) → length rs < 2 ^ 32 → Each RangedRecord rs → read_app_records (bytes_of 4 (length rs) ++ (run_bytes app_record_bytes rs ++ rest)) ≡ ok rs rest
unfolding read_app_records
records_back rs rest h each =
    let fits : length rs * 6 ≤ length (run_bytes app_record_bytes rs ++ rest) =
    omega (arith, run_long app_record_bytes 6 record_long rs, length-append (run_bytes app_record_bytes rs) rest) in
    rw (count_back 6 (length rs) (run_bytes app_record_bytes rs ++ rest) h fits, run_back read_app_record app_record_bytes RangedRecord record_back rs rest each)

part_back : (p : Part) (rest : List ℕ) → read_part (part_number p ∷ rest) ≡ ok p rest
unfolding read_part
part_back commit rest = rw byte_back
part_back whole rest = rw byte_back
part_back last_whole rest = rw byte_back

reason_back : (r : Reason) (rest : List ℕ) → read_reason (reason_number r ∷ rest) ≡ ok r rest
unfolding read_reason
reason_back stale_epoch rest = rw byte_back
reason_back diverged rest = rw byte_back
reason_back lag_too_great rest = rw byte_back
reason_back restarted rest = rw byte_back

key_back : (k : Key) (rest : List ℕ) → RangedKey k → fine_key k ≡ true → read_key (key_bytes k ++ rest) ≡ ok k rest
unfolding read_key key_bytes fine_key
key_back k rest r e =
    let judged = is_key k.begin k.sender k.target k.suffix in
    let e₁ = and_right (utf8 k.begin) (utf8 k.sender && (utf8 k.target && (utf8 k.suffix && judged))) e in
    let e₂ = and_right (utf8 k.sender) (utf8 k.target && (utf8 k.suffix && judged)) e₁ in
    let e₃ = and_right (utf8 k.target) (utf8 k.suffix && judged) e₂ in
    simp append_assoc
    (rw (text_back k.begin _ r.begin_u32 (and_left (utf8 k.begin) _ e), text_back k.sender _ r.sender_u32 (and_left (utf8 k.sender) _ e₁), text_back k.target _ r.target_u32 (and_left (utf8 k.target) _ e₂), text_back k.suffix rest r.suffix_u32 (and_left (utf8 k.suffix) judged e₃), and_right (utf8 k.suffix) judged e₃))

stamp_or_none_back : (version : ℕ) (t rest : List ℕ) → length t < 2 ^ 32 → (utf8 t && (is_empty t || takes_stamp version t)) ≡ true → read_stamp_or_none version (blob_bytes t ++ rest) ≡ ok t rest
unfolding read_stamp_or_none
stamp_or_none_back version t rest h e =
    rw (text_back t rest h (and_left (utf8 t) (is_empty t || takes_stamp version t) e), and_right (utf8 t) (is_empty t || takes_stamp version t) e)

-- none is written as 0, and 0 read as none
flight_back : (o : Option ℕ) → flight (flight_number o) ≡ no_zero o
flight_back none = refl
flight_back (some f) = refl

-- a summary with an in-flight number 0 shown as none
abbrev pub shown_summary : Summary → Summary
shown_summary m =
    record {
      next_out = m.next_out;
      next_in = m.next_in;
      in_flight = no_zero m.in_flight;
      stamp_text = m.stamp_text;
      marks_text = m.marks_text;
      last_outgoing = m.last_outgoing;
    }

summary_back : (version : ℕ) (m : Summary) (rest : List ℕ) → RangedSummary m → fine_summary version m ≡ true → read_summary version (summary_bytes m ++ rest) ≡ ok (shown_summary m) rest
unfolding read_summary summary_bytes fine_summary
summary_back version m rest r e =
    let stamped = utf8 m.stamp_text && (is_empty m.stamp_text || takes_stamp version m.stamp_text) in
    let marked = utf8 m.marks_text && is_marks m.marks_text in
    simp append_assoc
    (rw (num_back 8 m.next_out _ r.out_u64, num_back 8 m.next_in _ r.in_u64, num_back 8 (flight_number m.in_flight) _ r.flight_u64, stamp_or_none_back version m.stamp_text _ r.stamp_u32 (and_left stamped marked e), marks_back m.marks_text _ r.marks_u32 (and_right stamped marked e), num_back 8 m.last_outgoing rest r.last_u64, flight_back m.in_flight))

-- ---- the frames

fields_back : (version : ℕ) (f : Frame) (rest : List ℕ) → Ranged f → fine version f ≡ true → read_fields version (body_bytes f ++ rest) ≡ ok (shown f) rest
unfolding read_fields body_bytes fine hello_fields welcome_fields bind_fields batch_fields ack_fields nack_fields bound_fields checked_fields
fields_back version (hello v e node ks) rest r t =
    simp append_assoc (rw (byte_back, num_back 2 v _ r.0, num_back 8 e _ r.1, text_back node _ r.2 t, kinds_back ks rest r.3 r.4))
fields_back version (welcome e i) rest r t = rw (append_assoc, byte_back, num_back 8 e _ r.0, num_back 8 i rest r.1)
fields_back version (bind h e lag k) rest r t =
    simp append_assoc (rw (byte_back, num_back 4 h _ r.0, num_back 8 e _ r.1, num_back 8 lag _ r.2, key_back k rest r.3 t))
fields_back version (batch h e n p cs rs) rest r t =
    simp append_assoc
    (rw (byte_back, num_back 4 h _ r.0, num_back 8 e _ r.1, num_back 8 n _ r.2, part_back p _, counted_changes_back version cs _ r.3 (each_sendable version cs r.4 t), records_back rs rest r.5 r.6))
fields_back version (ack h n) rest r t = rw (append_assoc, byte_back, num_back 4 h _ r.0, num_back 8 n rest r.1)
fields_back version (nack h why) rest r t = rw (append_assoc, byte_back, num_back 4 h _ r, reason_back why rest)
fields_back version (bound h m) rest r t = rw (append_assoc, byte_back, num_back 4 h _ r.0, summary_back version m rest r.1 t)
fields_back version (checked h e i) rest r t =
    simp append_assoc (rw (byte_back, num_back 4 h _ r.0, num_back 8 e _ r.1, num_back 8 i rest r.2))

body_back : (version : ℕ) (f : Frame) → Ranged f → fine version f ≡ true → read_body version (body_bytes f) ≡ ok (shown f) []
unfolding read_body
body_back version f r t =
    let e : read_fields version (body_bytes f) ≡ ok (shown f) [] = rw append-nil at (fields_back version f [] r t) in
    rw e

-- the length that stands in front of a body
pub size_back : {version : ℕ} {f : Frame} → Writable version f → le (bytes_of 4 (length (body_bytes f))) ≡ length (body_bytes f)
size_back {f = f} w = le_bytes 4 (length (body_bytes f)) ∙ mod-eq_of_lt (omega (arith, w.short))

pub decode_encode : (version : ℕ) (f : Frame) (rest : List ℕ) → Writable version f → decode version (encode f ++ rest) ≡ got (shown f) (length (encode f))
unfolding decode encode
decode_encode version f rest w =
    let n : ℕ = length (body_bytes f) in
    let four = length_bytes 4 n in
    let all : length (bytes_of 4 n ++ (body_bytes f ++ rest)) ≡ 4 + (n + length rest) =
    length-append (bytes_of 4 n) (body_bytes f ++ rest) ∙ omega (arith, length-append (body_bytes f) rest) in
    let whole : List ℕ = bytes_of 4 n ++ (body_bytes f ++ rest) in
    rw (append_assoc, take_at (bytes_of 4 n) (body_bytes f ++ rest) 4 four, drop_at (bytes_of 4 n) (body_bytes f ++ rest) 4 four, size_back w)
    (rw (le-ltb (length whole) 4 (omega arith), le-ltb max_body n w.short, le-ltb (length whole - 4) n (omega arith), take_at (body_bytes f) rest n refl, body_back version f w.ranged w.texts, length-append (bytes_of 4 n) (body_bytes f), four))

-- the same where the frame is all that there is
pub decode_alone : (version : ℕ) (f : Frame) → Writable version f → decode version (encode f) ≡ got (shown f) (length (encode f))
decode_alone version f w = rw append-nil at (decode_encode version f [] w)

-- the one exception is a summary with an in-flight number 0
flight_same : (o : Option ℕ) → (o ≡ some 0 → ⊥) → no_zero o ≡ o
flight_same none h = refl
flight_same (some f) h = rw (ne_eqb f 0 (λ e. h (ap some e)))

pub shown_same : (f : Frame) → NoZeroFlight f → shown f ≡ f
shown_same (hello v e node ks) h = refl
shown_same (welcome e i) h = refl
shown_same (bind h e lag k) z = refl
shown_same (batch h e n p cs rs) z = refl
shown_same (ack h n) z = refl
shown_same (nack h r) z = refl
shown_same (bound h m) z = rw (flight_same m.in_flight z)
shown_same (checked h e i) z = refl

pub decode_encode_same :
    (version : ℕ) (f : Frame) (rest : List ℕ) → Writable version f → NoZeroFlight f → decode version (encode f ++ rest) ≡ got f (length (encode f))
decode_encode_same version f rest w z = decode_encode version f rest w ∙ ap (λ (g : Frame). got g (length (encode f))) (shown_same f z)
