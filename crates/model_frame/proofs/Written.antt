-- What is written is made of bytes, and the front of it is not yet a frame. Assumes nothing.
use mathlib.Core.Path.{◌≡◌, refl}
use mathlib.Core.Bool.{Bool, true, false}
use mathlib.Core.List.{List, [], ◌∷◌, ◌++◌}
use Prim.Native.Nat.{ℕ, ◌+◌, ◌-◌, ◌<◌, ◌≤◌}
use native.Mathlib.Omega.{arith}
use borrow.Author.Tests.{ltb-true, ltb-false, lt-ltb, le-ltb}
use lib.Dec.{T, ltb}
use lib.ListN.{length, take, length-append}
use lib.Seq.{take_at, take-take, length-take-le}
use Rattle.model_frame.proofs.Texts.{ByteChange, ByteRecord, ByteKey, ByteSummary, ByteFrame}
use Rattle.model_frame.specs.Bytes.{is_bytes, bytes_of}
use Rattle.model_frame.specs.Frame.{Key, Change, set_incoming, set_incoming_in_flight, set_in_flight, record_msg, record_bare, reset, set_created_at, set_marks, Part, commit, whole, last_whole, Reason, stale_epoch, diverged, lag_too_great, restarted, AppRecord, Summary, Frame, hello, welcome, bind, batch, ack, nack, bound, checked, more}
use Rattle.model_frame.specs.Parse.{run_bytes, Each}
use Rattle.model_frame.specs.Reading.{max_body, decode}
use Rattle.model_frame.specs.Writing.{blob_bytes, change_bytes, app_record_bytes, part_number, reason_number, key_bytes, summary_bytes, flight_number, body_bytes, encode, Writable}
use Rattle.model_frame.proofs.Le.{length_bytes, bytes_append, bytes_number}
use Rattle.model_frame.proofs.RoundTrip.{size_back}

-- ---- bytes

-- these are bytes, put together
record Octets (s : List ℕ) : Type 0 where
  are : T (is_bytes s)

join : {s t : List ℕ} → Octets s → Octets t → Octets (s ++ t)
join {s} {t} h k = record { are = bytes_append s t h.are k.are }

front : {s : List ℕ} (b : ℕ) → b < 256 → Octets s → Octets (b ∷ s)
front {s} b small h = join {s = b ∷ []} (record { are = rw (lt-ltb b 256 small) tt }) h

number : (n v : ℕ) → Octets (bytes_of n v)
number n v = record { are = bytes_number n v }

blob_octets : (bs : List ℕ) → T (is_bytes bs) → Octets (blob_bytes bs)
unfolding blob_bytes
blob_octets bs h = join (number 4 (length bs)) (record { are = h })

change_octets : (c : Change) → ByteChange c → Octets (change_bytes c)
unfolding change_bytes
change_octets (set_incoming n) h = front 1 (omega arith) (number 8 n)
change_octets (set_incoming_in_flight n f) h = front 2 (omega arith) (join (number 8 n) (number 8 f))
change_octets (set_in_flight f) h = front 3 (omega arith) (number 8 f)
change_octets (record_msg n m) h = front 4 (omega arith) (join (number 8 n) (blob_octets m h))
change_octets (record_bare n) h = front 5 (omega arith) (number 8 n)
change_octets reset h = record { are = tt }
change_octets (set_created_at t) h = front 7 (omega arith) (blob_octets t h)
change_octets (set_marks m) h = front 8 (omega arith) (blob_octets m h)

run_octets : {A : Type 0} (f : A → List ℕ) (P : A → Type 0) → ((a : A) → P a → Octets (f a)) → (xs : List A) → Each P xs → Octets (run_bytes f xs)
unfolding run_bytes
run_octets f P k [] h = record { are = tt }
run_octets f P k (x ∷ xs) h = join (k x h.0) (run_octets f P k xs h.1)

record_octets : (r : AppRecord) → ByteRecord r → Octets (app_record_bytes r)
unfolding app_record_bytes
record_octets r h = join (number 2 r.kind) (blob_octets r.blob h)

kinds_octets : (ks : List ℕ) → Octets (run_bytes (bytes_of 2) ks)
unfolding run_bytes
kinds_octets [] = record { are = tt }
kinds_octets (k ∷ ks) = join (number 2 k) (kinds_octets ks)

part_small : (p : Part) → part_number p < 256
part_small commit = omega arith
part_small whole = omega arith
part_small last_whole = omega arith

reason_small : (r : Reason) → reason_number r < 256
reason_small stale_epoch = omega arith
reason_small diverged = omega arith
reason_small lag_too_great = omega arith
reason_small restarted = omega arith

key_octets : (k : Key) → ByteKey k → Octets (key_bytes k)
unfolding key_bytes
key_octets k h = join (join (join (blob_octets k.begin h.0) (blob_octets k.sender h.1)) (blob_octets k.target h.2)) (blob_octets k.suffix h.3)

summary_octets : (m : Summary) → ByteSummary m → Octets (summary_bytes m)
unfolding summary_bytes
summary_octets m h =
    join (join (join (join (join (number 8 m.next_out) (number 8 m.next_in)) (number 8 (flight_number m.in_flight))) (blob_octets m.stamp_text h.0)) (blob_octets m.marks_text h.1))
    (number 8 m.last_outgoing)

body_octets : (f : Frame) → ByteFrame f → Octets (body_bytes f)
unfolding body_bytes
body_octets (hello v e node ks) b = join (join (join (join (front 1 (omega arith) (number 2 v)) (number 8 e)) (blob_octets node b)) (number 4 (length ks))) (kinds_octets ks)
body_octets (welcome e i) b = front 2 (omega arith) (join (number 8 e) (number 8 i))
body_octets (bind h e lag k) b = join (join (join (front 3 (omega arith) (number 4 h)) (number 8 e)) (number 8 lag)) (key_octets k b)
body_octets (batch h e n p cs rs) b =
    join (join (join (join (join (join (front 4 (omega arith) (number 4 h)) (number 8 e)) (number 8 n)) (front (part_number p) (part_small p) (number 4 (length cs)))) (run_octets change_bytes ByteChange change_octets cs b.0)) (number 4 (length rs)))
    (run_octets app_record_bytes ByteRecord record_octets rs b.1)
body_octets (ack h n) b = front 5 (omega arith) (join (number 4 h) (number 8 n))
body_octets (nack h r) b = front 6 (omega arith) (join (number 4 h) (front (reason_number r) (reason_small r) (record { are = tt })))
body_octets (bound h m) b = front 7 (omega arith) (join (number 4 h) (summary_octets m b))
body_octets (checked h e i) b = front 8 (omega arith) (join (join (number 4 h) (number 8 e)) (number 8 i))

pub changes_bytes : (cs : List Change) → Each ByteChange cs → T (is_bytes (run_bytes change_bytes cs))
changes_bytes cs h = (run_octets change_bytes ByteChange change_octets cs h).are

pub encode_bytes : (f : Frame) → ByteFrame f → T (is_bytes (encode f))
unfolding encode
encode_bytes f b = (join (number 4 (length (body_bytes f))) (body_octets f b)).are

-- ---- the front of a frame

pub decode_short : (version : ℕ) (f : Frame) (k : ℕ) → Writable version f → k < length (encode f) → decode version (take k (encode f)) ≡ more
unfolding decode encode
decode_short version f k w h = go (ltb k 4) refl
  where
    n : ℕ
    n = length (body_bytes f)

    all : List ℕ
    all = bytes_of 4 n ++ body_bytes f

    size : length all ≡ 4 + n
    size = simp (length-append, length_bytes)

    cut : length (take k all) ≡ k
    cut = length-take-le k all (omega arith)

    go : (t : Bool) → ltb k 4 ≡ t → decode version (take k all) ≡ more
    go true e = rw (lt-ltb (length (take k all)) 4 (omega (arith, ltb-true k 4 e, cut)))
    go false e =
        let four : 4 ≤ k = ltb-false k 4 e in
        let less : length (take k all) - 4 < n = omega (arith, cut, size) in
        rw (take-take 4 k all four, take_at (bytes_of 4 n) (body_bytes f) 4 (length_bytes 4 n), size_back w)
        (rw (le-ltb (length (take k all)) 4 (omega (arith, cut)), le-ltb max_body n w.short, lt-ltb (length (take k all) - 4) n less))
