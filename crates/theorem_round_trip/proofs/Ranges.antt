-- A frame of the code that stands in a source of bytes is one whose numbers and lengths fit their fields: by the types of its fields, and by how
-- changes, records and kinds are read. Assumes nothing.
use Prim.Native.Nat.{ℕ, ◌^◌, ◌<◌}
use mathlib.Core.Path.{◌≡◌, refl, sym, ap}
use mathlib.Core.Bool.{true}
use mathlib.Core.List.{List, [], ◌∷◌}
use native.Mathlib.Omega.{arith}
use lib.Dec.{T}
use lib.ListN.{length, drop, length-take}
use mir.Val.{Val}
use denote.Laws.{Is}
use denote.Enum.Declared.{row}
use Rattle.model_frame.proofs.Texts.{ByteRecord}
use Rattle.model_frame.specs.Bytes.{is_bytes, bytes_of}
use Rattle.model_frame.specs.Frame.{AppRecord}
use Rattle.model_frame.specs.Parse.{Res, ok, bad, Parser, read_num, many, forget, collect, run_bytes, Each}
use Rattle.model_frame.specs.Reading.{read_change, read_app_record}
use Rattle.model_frame.specs.Writing.{change_bytes, app_record_bytes, flight_number, RangedRecord, Ranged}
use Rattle.model_frame.proofs.Le.{bytes_each, bytes_drop}
use Rattle.model_frame.proofs.Canon.{Was, Canon, run_canon, num_canon, Run}
use Rattle.model_frame.proofs.RoundTrip.{and_left, and_right}
use Rattle.model_frame.proofs.Sound.{record_canon}
use Rattle.model_frame.proofs.SoundChange.{TakenChange, change_canon, taken_ranged}
use Rattle.base_laws.proofs.Runs.{run_items}
use Rattle.frame_reader.specs.declared.Span.{Span}
use Rattle.frame_reader.specs.Answers.{span_of}
use Rattle.frame_op.specs.declared.Run as the-run
use Rattle.frame_op.specs.Answers.{run_of}
use Rattle.std.specs.Prelude as prelude
use Rattle.std.specs.Prelude.{Some, None}
use Rattle.frame_fields.specs.declared.Summary.{Summary}
use Rattle.frame_fields.specs.Answers.{flight_of}
use Rattle.frame_writer.specs.Encoding.{span_fits, is_ok, run_reads}
use Rattle.frame.specs.contracts.Frame as Frame-type
use Rattle.frame.specs.declared.Frame.{Frame}
use Rattle.frame.specs.Answers.{frame_of, readable}

-- a frame as the code has it, in its machine values
abbrev pub IsFrame : Frame → List Val → Type 0
IsFrame f vs = Is (row Frame-type.the_type) f vs

-- ---- texts and runs

span_short : (src : List ℕ) (p : Span) → p.len < 2 ^ 32 → length (span_of src p) < 2 ^ 32
span_short src p h = omega (arith, length-take p.len (drop p.at src))

module _ {A : Type 0} (p : Parser A) (f : A → List ℕ) (U : A → Type 0) (canon : Canon [] p f U) (src : List ℕ) (known : T (is_bytes src)) where
  -- a run that can be read has as many items as it says, each as it was read
  run_was : (r : the-run.Run) → run_reads p src r ≡ true → Run U r.count (run_of p src r)
  run_was r e = go (many r.count p (drop r.at src)) e refl ((run_canon canon r.count).reads (drop r.at src) (bytes_each (drop r.at src) (bytes_drop r.at src known)))
    where
      go : (m : Res (List A)) → is_ok m ≡ true → many r.count p (drop r.at src) ≡ m → Was (run_bytes f) (Run U r.count) (drop r.at src) (many r.count p (drop r.at src)) → Run U r.count (run_of p src r)
      go (ok xs t) o q w =
          let items : many r.count p (drop r.at src) ≡ ok (collect r.count p (drop r.at src)) t = sym (run_items p r.count (drop r.at src) (sym (ap forget q))) in
          let was : Was (run_bytes f) (Run U r.count) (drop r.at src) (ok (collect r.count p (drop r.at src)) t) = rw items at w in
          was.1
      go (bad x) o q w =
          let z : ◌≡◌ {A = ℕ} 0 1 = cc in
          absurd (omega arith)

records_ranged : (rs : List AppRecord) → Each (λ (r : AppRecord). RangedRecord r × ByteRecord r) rs → Each RangedRecord rs
records_ranged [] h = tt
records_ranged (r ∷ rs) h = (h.0.0, records_ranged rs h.1)

-- ---- the frames

-- an in-flight number is a u64, where there is one
flight_short :
    (h : ℕ) (o : prelude.Option ℕ) (m : Summary) {vs : List Val} →
    IsFrame (Frame.Bound h (record { next_outgoing = m.next_outgoing; next_incoming = m.next_incoming; in_flight = o; created_at = m.created_at; marks = m.marks; last_outgoing = m.last_outgoing })) vs →
    flight_number (flight_of o) < 2 ^ 64
flight_short h (Some n) m g = omega arith
flight_short h None m g = omega arith

pub ranged : (version : ℕ) (src : List ℕ) (f : Frame) {vs : List Val} → T (is_bytes src) → IsFrame f vs → readable version src f ≡ true → Ranged (frame_of version src f)
ranged version src (Frame.Hello v e node ks) known g r =
    let w = run_was (read_num 2) (bytes_of 2) (λ n. n < 256 ^ 2) (num_canon 2) src known ks (and_right (span_fits src node) (run_reads (read_num 2) src ks) r) in
    (omega arith, omega arith, span_short src node (omega arith), omega (arith, w.0), w.1)
ranged version src (Frame.Welcome e i) known g r = omega arith
ranged version src (Frame.Bind h e lag k) known g r = (
  omega arith,
  omega arith,
  omega arith,
  record {
    begin_u32 = span_short src k.begin_string (omega arith);
    sender_u32 = span_short src k.sender_comp_id (omega arith);
    target_u32 = span_short src k.target_comp_id (omega arith);
    suffix_u32 = span_short src k.key_suffix (omega arith);
  },
)
ranged version src (Frame.Bound h m) known g r = (
  omega arith,
  record {
    out_u64 = omega arith;
    in_u64 = omega arith;
    flight_u64 = flight_short h m.in_flight m g;
    stamp_u32 = span_short src m.created_at (omega arith);
    marks_u32 = span_short src m.marks (omega arith);
    last_u64 = omega arith;
  },
)
ranged version src (Frame.Batch x) known g r =
    let w = run_was (read_change version) change_bytes (TakenChange version) (change_canon version) src known x.ops (and_left (run_reads (read_change version) src x.ops) (run_reads read_app_record src x.app_records) r) in
    let v = run_was read_app_record app_record_bytes (λ (a : AppRecord). RangedRecord a × ByteRecord a) record_canon src known x.app_records (and_right (run_reads (read_change version) src x.ops) (run_reads read_app_record src x.app_records) r) in
    (omega arith, omega arith, omega arith, omega (arith, w.0), taken_ranged version (run_of (read_change version) src x.ops) w.1, omega (arith, v.0), records_ranged (run_of read_app_record src x.app_records) v.1)
ranged version src (Frame.Ack h n) known g r = omega arith
ranged version src (Frame.Nack h why) known g r = omega arith
ranged version src (Frame.Checked h e i) known g r = omega arith
