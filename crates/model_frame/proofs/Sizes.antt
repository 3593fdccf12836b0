-- The lengths of what is written, in plain numbers. Assumes nothing.
use mathlib.Core.Path.{◌≡◌, refl}
use mathlib.Core.List.{List, [], ◌∷◌}
use Prim.Native.Nat.{ℕ, ◌+◌, ◌*◌}
use native.Mathlib.Omega.{arith}
use lib.ListN.{length, length-append}
use Rattle.model_frame.specs.Bytes.{bytes_of}
use Rattle.model_frame.specs.Frame.{Key, Change, set_incoming, set_incoming_in_flight, set_in_flight, record_msg, record_bare, reset, set_created_at, set_marks, AppRecord, Summary, Frame, hello, welcome, bind, batch, ack, nack, bound, checked}
use Rattle.model_frame.specs.Parse.{run_bytes}
use Rattle.model_frame.specs.Writing.{blob_bytes, change_bytes, app_record_bytes, key_bytes, summary_bytes, body_bytes, encode}
use Rattle.model_frame.specs.Sizes.{size_of, sizes, record_sizes, body_size}
use Rattle.model_frame.proofs.Le.{length_bytes}

pub blob_size : (bs : List ℕ) → length (blob_bytes bs) ≡ 4 + length bs
unfolding blob_bytes
blob_size bs = simp (length-append, length_bytes)

pub change_size : (c : Change) → length (change_bytes c) ≡ size_of c
unfolding change_bytes
change_size (set_incoming n) = simp length_bytes
change_size (set_incoming_in_flight n f) = simp (length-append, length_bytes)
change_size (set_in_flight f) = simp length_bytes
change_size (record_msg n m) = simp (length-append, length_bytes, blob_size) (omega arith)
change_size (record_bare n) = simp length_bytes
change_size reset = refl
change_size (set_created_at t) = simp blob_size (omega arith)
change_size (set_marks m) = simp blob_size (omega arith)

pub changes_size : (cs : List Change) → length (run_bytes change_bytes cs) ≡ sizes cs
unfolding run_bytes
changes_size [] = refl
changes_size (c ∷ cs) = simp length-append (omega (arith, change_size c, changes_size cs))

pub record_size : (r : AppRecord) → length (app_record_bytes r) ≡ 6 + length r.blob
unfolding app_record_bytes
record_size r = simp (length-append, length_bytes, blob_size) (omega arith)

pub records_size : (rs : List AppRecord) → length (run_bytes app_record_bytes rs) ≡ record_sizes rs
unfolding run_bytes
records_size [] = refl
records_size (r ∷ rs) = simp length-append (omega (arith, record_size r, records_size rs))

kinds_size : (ks : List ℕ) → length (run_bytes (bytes_of 2) ks) ≡ 2 * length ks
unfolding run_bytes
kinds_size [] = refl
kinds_size (k ∷ ks) = simp length-append (omega (arith, length_bytes 2 k, kinds_size ks))

key_size_lem : (k : Key) → length (key_bytes k) ≡ 16 + length k.begin + length k.sender + length k.target + length k.suffix
unfolding key_bytes
key_size_lem k = simp (length-append, blob_size) (omega arith)

summary_size_lem : (m : Summary) → length (summary_bytes m) ≡ 40 + length m.stamp_text + length m.marks_text
unfolding summary_bytes
summary_size_lem m = simp (length-append, length_bytes, blob_size) (omega arith)

pub body_size_lem : (f : Frame) → length (body_bytes f) ≡ body_size f
unfolding body_bytes
body_size_lem (hello v e node ks) = simp (length-append, length_bytes, blob_size, kinds_size) (omega arith)
body_size_lem (welcome e i) = simp (length-append, length_bytes)
body_size_lem (bind h e lag k) = simp (length-append, length_bytes, key_size_lem) (omega arith)
body_size_lem (batch h e n p cs rs) = simp (length-append, length_bytes, changes_size, records_size) (omega arith)
body_size_lem (ack h n) = simp (length-append, length_bytes)
body_size_lem (nack h r) = simp (length-append, length_bytes)
body_size_lem (bound h m) = simp (length-append, length_bytes, summary_size_lem) (omega arith)
body_size_lem (checked h e i) = simp (length-append, length_bytes)

pub encode_size : (f : Frame) → length (encode f) ≡ 4 + body_size f
unfolding encode
encode_size f = simp (length-append, length_bytes, body_size_lem)
