-- What reading accepts is writable, and writing it gives the same bytes back. Assumes nothing.
use mathlib.Core.Path.{◌≡◌, refl, sym, ap, ap₂, ◌∙◌}
use mathlib.Core.Bool.{Bool, true, false, cond, ◌&&◌, ◌||◌}
use mathlib.Core.List.{List, [], ◌∷◌, ◌++◌, append_assoc, append-nil}
use mathlib.Core.Option.{none, some}
use Prim.Native.Nat.{ℕ, ◌+◌, ◌-◌, ◌^◌, ◌≤◌, ◌<◌}
use native.Mathlib.Omega.{arith}
use borrow.Author.Tests.{ltb-false, eqb-true, eqb-false}
use lib.Dec.{T, eqb, ltb}
use lib.ListN.{length, take, drop, length-drop}
use lib.Seq.{take-add, length-take-le}
use Rattle.model_frame.proofs.Texts.{ByteRecord, ByteKey, ByteSummary, ByteFrame}
use Rattle.model_frame.proofs.Sendable.{NoZeroFlight}
use Rattle.model_text.specs.Utf8.{utf8}
use Rattle.model_text.specs.Printable.{is_key}
use Rattle.model_text.specs.Stamp.{takes_stamp}
use Rattle.model_frame.specs.Bytes.{is_bytes, le, bytes_of}
use Rattle.model_frame.specs.Frame.{Key, AppRecord, Summary, Frame, Fault, too_long, truncated, bad_session, bad_timestamp, more, faulty, got}
use Rattle.model_frame.specs.Parse.{is_empty, Res, ok, bad, and_then, run_bytes, Each}
use Rattle.model_frame.specs.Reading.{max_body, read_stamp_or_none, read_changes, read_kinds, read_app_record, read_app_records, read_part, read_reason, read_key, flight, read_summary, hello_fields, welcome_fields, bind_fields, batch_fields, ack_fields, nack_fields, bound_fields, checked_fields, read_fields, at_end, read_body, decoded_as, decode}
use Rattle.model_frame.specs.Writing.{blob_bytes, change_bytes, app_record_bytes, part_number, reason_number, flight_number, key_bytes, summary_bytes, body_bytes, encode, fine_key, fine_summary, fine, RangedRecord, RangedKey, RangedSummary, Ranged, Writable}
use Rattle.model_frame.proofs.Le.{Byte, bytes_each, each_take, each_drop, bytes_le}
use Rattle.model_frame.proofs.Canon.{Was, Canon, canon_done, canon_fail, canon_test, canon_row, canon_then, num_canon, byte_canon, blob_canon, text_canon, counted_canon, Blob}
use Rattle.model_frame.proofs.SoundChange.{both, TakenChange, marks_canon, change_canon, taken_ranged, taken_fine, taken_blob}

-- ---- parts of frames

kinds_canon : Canon [] read_kinds (λ ks. bytes_of 4 (length ks) ++ run_bytes (bytes_of 2) ks) (λ ks. (length ks < 2 ^ 32) × Each (λ (n : ℕ). n < 2 ^ 16) ks)
unfolding read_kinds
kinds_canon = counted_canon 2 (num_canon 2)

changes_canon : (version : ℕ) → Canon [] (read_changes version) (λ cs. bytes_of 4 (length cs) ++ run_bytes change_bytes cs) (λ cs. (length cs < 2 ^ 32) × Each (TakenChange version) cs)
unfolding read_changes
changes_canon version = counted_canon 1 (change_canon version)

pub record_canon : Canon [] read_app_record app_record_bytes (λ r. RangedRecord r × ByteRecord r)
unfolding read_app_record app_record_bytes
record_canon = canon_then (num_canon 2) (λ k h. canon_then blob_canon (λ bs w. canon_done refl ((h, w.0), w.1)))

records_canon : Canon [] read_app_records (λ rs. bytes_of 4 (length rs) ++ run_bytes app_record_bytes rs) (λ rs. (length rs < 2 ^ 32) × Each (λ (r : AppRecord). RangedRecord r × ByteRecord r) rs)
unfolding read_app_records
records_canon = counted_canon 6 record_canon

part_canon : Canon [] read_part (λ p. part_number p ∷ []) (λ p. Unit {0})
unfolding read_part
part_canon = canon_then byte_canon (λ k h. canon_row 0 (canon_done refl tt) (canon_row 1 (canon_done refl tt) (canon_row 2 (canon_done refl tt) canon_fail)))

reason_canon : Canon [] read_reason (λ r. reason_number r ∷ []) (λ r. Unit {0})
unfolding read_reason
reason_canon =
    canon_then byte_canon
    (λ k h. canon_row 1 (canon_done refl tt) (canon_row 2 (canon_done refl tt) (canon_row 3 (canon_done refl tt) (canon_row 4 (canon_done refl tt) canon_fail))))

abbrev TakenKey : Key → Type 0
TakenKey k = RangedKey k × (fine_key k ≡ true) × ByteKey k

key_canon : Canon [] read_key key_bytes TakenKey
unfolding read_key key_bytes fine_key
key_canon =
    canon_then text_canon
    (λ b hb. canon_then text_canon
    (λ s hs. canon_then text_canon
    (λ t ht. canon_then text_canon
    (λ x hx. canon_test (is_key b s t x) (record { begin = b; sender = s; target = t; suffix = x }) bad_session refl
    (λ e. (
      record { begin_u32 = hb.0.0; sender_u32 = hs.0.0; target_u32 = ht.0.0; suffix_u32 = hx.0.0 },
      both hb.1 (both hs.1 (both ht.1 (both hx.1 e))),
      (hb.0.1, hs.0.1, ht.0.1, hx.0.1),
    ))))))

stamp_or_none_canon : (version : ℕ) → Canon [] (read_stamp_or_none version) blob_bytes (λ t. Blob t × ((utf8 t && (is_empty t || takes_stamp version t)) ≡ true))
unfolding read_stamp_or_none
stamp_or_none_canon version = canon_then text_canon (λ t h. canon_test (is_empty t || takes_stamp version t) t bad_timestamp refl (λ e. (h.0, both h.1 e)))

-- an in-flight number is written as it was read, and is not 0
flight_number_lem : (n : ℕ) → flight_number (flight n) ≡ n
flight_number_lem n = go (eqb n 0) refl
  where
    go : (t : Bool) → eqb n 0 ≡ t → flight_number (cond t none (some n)) ≡ n
    go true e = sym (eqb-true n 0 e)
    go false e = refl

flight_some : (n : ℕ) → flight n ≡ some 0 → ⊥
flight_some n = go (eqb n 0) refl
  where
    go : (t : Bool) → eqb n 0 ≡ t → cond t none (some n) ≡ some 0 → ⊥
    go true e q =
        let z : ◌≡◌ {A = ℕ} 0 1 = cc in
        omega arith
    go false e q = eqb-false n 0 e (cc)

abbrev TakenSummary : ℕ → Summary → Type 0
TakenSummary version m = RangedSummary m × (fine_summary version m ≡ true) × ByteSummary m × (m.in_flight ≡ some 0 → ⊥)

summary_canon : (version : ℕ) → Canon [] (read_summary version) summary_bytes (TakenSummary version)
unfolding read_summary summary_bytes fine_summary
summary_canon version =
    canon_then (num_canon 8)
    (λ o ho. canon_then (num_canon 8)
    (λ i hi. canon_then (num_canon 8)
    (λ n hn. canon_then (stamp_or_none_canon version)
    (λ t ht. canon_then marks_canon
    (λ m hm. canon_then (num_canon 8)
    (λ l hl. canon_done (rw (flight_number_lem n)) (
      record { out_u64 = ho; in_u64 = hi; flight_u64 = rw (flight_number_lem n) hn; stamp_u32 = ht.0.0; marks_u32 = hm.0.0; last_u64 = hl },
      both ht.1 hm.1,
      (ht.0.1, hm.0.1),
      flight_some n,
    )))))))

-- ---- the frames

-- what a frame that was read is, but for its length
pub record TakenFrame (version : ℕ) (f : Frame) : Type 0 where
  pub ranged : Ranged f
  pub texts : fine version f ≡ true
  pub blobs : ByteFrame f
  pub flight : NoZeroFlight f

records_split : (rs : List AppRecord) → Each (λ (r : AppRecord). RangedRecord r × ByteRecord r) rs → Each RangedRecord rs × Each ByteRecord rs
records_split [] h = (tt, tt)
records_split (r ∷ rs) h =
    let rest = records_split rs h.1 in
    ((h.0.0, rest.0), (h.0.1, rest.1))

regroup : (a : List ℕ) (k : ℕ) (x y z u : List ℕ) → a ++ (k ∷ []) ++ (x ++ y) ++ (z ++ u) ≡ a ++ k ∷ x ++ y ++ z ++ u
regroup a k x y z u = simp append_assoc

module _ (version : ℕ) where
  hello_canon : Canon (1 ∷ []) hello_fields body_bytes (TakenFrame version)
  unfolding hello_fields body_bytes fine
  hello_canon =
      canon_then (num_canon 2)
      (λ v hv. canon_then (num_canon 8)
      (λ e he. canon_then text_canon
      (λ n hn. canon_then kinds_canon
      (λ ks hk. canon_done (simp append_assoc) (record { ranged = (hv, he, hn.0.0, hk.0, hk.1); texts = hn.1; blobs = hn.0.1; flight = tt })))))

  welcome_canon : Canon (2 ∷ []) welcome_fields body_bytes (TakenFrame version)
  unfolding welcome_fields body_bytes fine
  welcome_canon =
      canon_then (num_canon 8) (λ e he. canon_then (num_canon 8) (λ i hi. canon_done refl (record { ranged = (he, hi); texts = refl; blobs = tt; flight = tt })))

  bind_canon : Canon (3 ∷ []) bind_fields body_bytes (TakenFrame version)
  unfolding bind_fields body_bytes fine
  bind_canon =
      canon_then (num_canon 4)
      (λ h hh. canon_then (num_canon 8)
      (λ e he. canon_then (num_canon 8)
      (λ l hl. canon_then key_canon
      (λ k hk. canon_done refl (record { ranged = (hh, he, hl, hk.0); texts = hk.1; blobs = hk.2; flight = tt })))))

  batch_canon : Canon (4 ∷ []) (batch_fields version) body_bytes (TakenFrame version)
  unfolding batch_fields body_bytes fine
  batch_canon =
      canon_then (num_canon 4)
      (λ h hh. canon_then (num_canon 8)
      (λ e he. canon_then (num_canon 8)
      (λ n hn. canon_then part_canon
      (λ p hp. canon_then (changes_canon version)
      (λ cs hc. canon_then records_canon
      (λ rs hr.
      let split = records_split rs hr.1 in
      canon_done (regroup ((4 ∷ bytes_of 4 h) ++ bytes_of 8 e ++ bytes_of 8 n) (part_number p) (bytes_of 4 (length cs)) (run_bytes change_bytes cs) (bytes_of 4 (length rs)) (run_bytes app_record_bytes rs))
      (record {
        ranged = (hh, he, hn, hc.0, taken_ranged version cs hc.1, hr.0, split.0);
        texts = taken_fine version cs hc.1;
        blobs = (taken_blob version cs hc.1, split.1);
        flight = tt;
      })))))))

  ack_canon : Canon (5 ∷ []) ack_fields body_bytes (TakenFrame version)
  unfolding ack_fields body_bytes fine
  ack_canon = canon_then (num_canon 4) (λ h hh. canon_then (num_canon 8) (λ n hn. canon_done refl (record { ranged = (hh, hn); texts = refl; blobs = tt; flight = tt })))

  nack_canon : Canon (6 ∷ []) nack_fields body_bytes (TakenFrame version)
  unfolding nack_fields body_bytes fine
  nack_canon = canon_then (num_canon 4) (λ h hh. canon_then reason_canon (λ r hr. canon_done refl (record { ranged = hh; texts = refl; blobs = tt; flight = tt })))

  bound_canon : Canon (7 ∷ []) (bound_fields version) body_bytes (TakenFrame version)
  unfolding bound_fields body_bytes fine
  bound_canon =
      canon_then (num_canon 4)
      (λ h hh. canon_then (summary_canon version) (λ m hm. canon_done refl (record { ranged = (hh, hm.0); texts = hm.1; blobs = hm.2; flight = hm.3 })))

  checked_canon : Canon (8 ∷ []) checked_fields body_bytes (TakenFrame version)
  unfolding checked_fields body_bytes fine
  checked_canon =
      canon_then (num_canon 4)
      (λ h hh. canon_then (num_canon 8) (λ e he. canon_then (num_canon 8) (λ i hi. canon_done refl (record { ranged = (hh, he, hi); texts = refl; blobs = tt; flight = tt }))))

  fields_canon : Canon [] (read_fields version) body_bytes (TakenFrame version)
  unfolding read_fields
  fields_canon =
      canon_then byte_canon
      (λ k h.
      canon_row 1 hello_canon
      (canon_row 2 welcome_canon
      (canon_row 3 bind_canon
      (canon_row 4 batch_canon
      (canon_row 5 ack_canon
      (canon_row 6 nack_canon
      (canon_row 7 bound_canon
      (canon_row 8 checked_canon canon_fail))))))))

  pub body_end : (s : List ℕ) {f : Frame} {t : List ℕ} → read_body version s ≡ ok f t → t ≡ []
  unfolding read_body
  body_end s {f} {t} = go (read_fields version s)
    where
      go : (r : Res Frame) → and_then r at_end ≡ ok f t → t ≡ []
      go (ok a []) e = cc
      go (ok a (x ∷ xs)) e = cc
      go (bad x) e = cc

  pub body_sound : (s : List ℕ) {f : Frame} {t : List ℕ} → Each Byte s → read_body version s ≡ ok f t → (s ≡ body_bytes f) × TakenFrame version f
  unfolding read_body
  body_sound s {f} {t} h = go (read_fields version s) (fields_canon.reads s h)
    where
      go : (r : Res Frame) → Was body_bytes (TakenFrame version) s r → and_then r at_end ≡ ok f t → (s ≡ body_bytes f) × TakenFrame version f
      go (ok a []) w e =
          let q : a ≡ f = cc in
          rw (← q) (rw append-nil at w.0, w.1)
      go (ok a (x ∷ xs)) w e = absurd (omega (arith, clash e))
        where
          clash : ◌≡◌ {A = Res Frame} (bad truncated) (ok f t) → ◌≡◌ {A = ℕ} 0 1
          clash e = cc
      go (bad x) w e = absurd (omega (arith, clash e))
        where
          clash : ◌≡◌ {A = Res Frame} (bad x) (ok f t) → ◌≡◌ {A = ℕ} 0 1
          clash e = cc

-- ---- a frame at the start of the bytes

-- where reading gives a frame: its four bytes of length, and then its body
pub record Taking (version : ℕ) (w : List ℕ) (f : Frame) (used : ℕ) : Type 0 where
  pub four : 4 ≤ length w
  pub small : le (take 4 w) ≤ max_body
  pub fits : le (take 4 w) ≤ length w - 4
  pub counted : used ≡ 4 + le (take 4 w)
  pub whole : read_body version (take (le (take 4 w)) (drop 4 w)) ≡ ok f []

pub more_got : {f : Frame} {n : ℕ} → more ≡ got f n → ⊥
more_got e =
    let z : ◌≡◌ {A = ℕ} 0 1 = cc in
    omega arith

pub faulty_got : {x : Fault} {f : Frame} {n : ℕ} → faulty x ≡ got f n → ⊥
faulty_got e =
    let z : ◌≡◌ {A = ℕ} 0 1 = cc in
    omega arith

pub decode_taking : (version : ℕ) (w : List ℕ) {f : Frame} {used : ℕ} → decode version w ≡ got f used → Taking version w f used
unfolding decode
decode_taking version w {f} {used} = go (ltb (length w) 4) (ltb max_body n) (ltb (length w - 4) n) (read_body version s) refl refl refl refl
  where
    n : ℕ
    n = le (take 4 w)

    s : List ℕ
    s = take n (drop 4 w)

    go :
        (a b c : Bool) (r : Res Frame) → ltb (length w) 4 ≡ a → ltb max_body n ≡ b → ltb (length w - 4) n ≡ c → read_body version s ≡ r →
        cond a more (cond b (faulty (too_long n)) (cond c more (decoded_as (4 + n) r))) ≡ got f used → Taking version w f used
    go true b c r p q x y e = absurd (more_got e)
    go false true c r p q x y e = absurd (faulty_got e)
    go false false true r p q x y e = absurd (more_got e)
    go false false false (bad z) p q x y e = absurd (faulty_got e)
    go false false false (ok g t) p q x y e =
        let same : g ≡ f = cc in
        let size : 4 + n ≡ used = cc in
        record {
          four = ltb-false (length w) 4 p;
          small = ltb-false max_body n q;
          fits = ltb-false (length w - 4) n x;
          counted = sym size;
          whole = y ∙ ap (λ (l : List ℕ). ok g l) (body_end version s y) ∙ ap (λ (h : Frame). ok h []) same;
        }

-- what holds of a frame that was read from bytes
pub record Accepted (version : ℕ) (w : List ℕ) (f : Frame) (used : ℕ) : Type 0 where
  pub writable : Writable version f
  pub blobs : ByteFrame f
  pub flight : NoZeroFlight f
  pub within : used ≤ length w
  pub size : used ≡ length (encode f)
  pub same : take used w ≡ encode f

pub decode_sound : (version : ℕ) (w : List ℕ) {f : Frame} {used : ℕ} → T (is_bytes w) → decode version w ≡ got f used → Accepted version w f used
unfolding encode
decode_sound version w {f} {used} h e =
    let t : Taking version w f used = decode_taking version w e in
    let n : ℕ = le (take 4 w) in
    let b : List ℕ = take n (drop 4 w) in
    let left = length-drop 4 w in
    let fits : n ≤ length (drop 4 w) = omega (arith, t.fits) in
    let each = bytes_each w h in
    let sound : (b ≡ body_bytes f) × TakenFrame version f = body_sound version b (each_take n (drop 4 w) (each_drop 4 w each)) t.whole in
    let count : length (body_bytes f) ≡ n = ap length (sym sound.0) ∙ length-take-le n (drop 4 w) fits in
    let four : length (take 4 w) ≡ 4 = length-take-le 4 w t.four in
    let front : take 4 w ≡ bytes_of 4 n = sym (rw four at (bytes_le (take 4 w) (each_take 4 w each))) in
    let all : take used w ≡ bytes_of 4 (length (body_bytes f)) ++ body_bytes f = rw (t.counted, take-add 4 n w, count) (ap₂ (λ (x y : List ℕ). x ++ y) front sound.0) in
    let within : used ≤ length w = omega (arith, t.four, t.fits, t.counted) in
    record {
      writable = record { ranged = sound.1.ranged; texts = sound.1.texts; short = omega (arith, t.small, count) };
      blobs = sound.1.blobs;
      flight = sound.1.flight;
      within = within;
      size = sym (length-take-le used w within) ∙ ap length all;
      same = all;
    }

pub encode_decode : (version : ℕ) (w : List ℕ) {f : Frame} {used : ℕ} → T (is_bytes w) → decode version w ≡ got f used → take used w ≡ encode f
encode_decode version w h e = (decode_sound version w h e).same
