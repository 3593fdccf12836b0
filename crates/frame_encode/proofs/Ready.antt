-- For each kind of frame: when it can be written, how long its body is, and what was written. Assumes nothing.
use mathlib.Core.Path.{◌≡◌, refl, sym, ◌∙◌}
use mathlib.Core.Bool.{Bool, true, false, ◌&&◌}
use mathlib.Core.List.{List, [], ◌∷◌, ◌++◌, append_assoc}
use Prim.Native.Nat.{ℕ, ◌+◌, ◌-◌, ◌*◌, ◌^◌, ◌≤◌, ◌<◌}
use native.Mathlib.Omega.{arith}
use borrow.Author.Tests.{leb-true}
use lib.Dec.{T}
use lib.ListN.{length, take, drop, length-drop}
use lib.Seq.{drop-drop}
use Rattle.model_frame.proofs.Texts.{ByteRecord}
use Rattle.model_text.specs.Utf8.{utf8}
use Rattle.model_frame.specs.Bytes.{is_bytes, bytes_of}
use Rattle.model_frame.specs.Frame.{Part, Reason, AppRecord, Frame, hello, welcome, bind, batch, ack, nack, bound, checked, Fault}
use Rattle.model_frame.specs.Parse.{Parser, ok, bad, read_num, many, forget, run_bytes, Each}
use Rattle.model_frame.specs.Reading.{read_change, read_app_record}
use Rattle.model_frame.specs.Writing.{blob_bytes, change_bytes, app_record_bytes, part_number, body_bytes, fine, fine_key, fine_summary, RangedRecord}
use Rattle.model_frame.proofs.Le.{bytes_each, bytes_drop}
use Rattle.model_frame.proofs.Canon.{Was, Canon, run_canon, num_canon, Run}
use Rattle.model_frame.proofs.RoundTrip.{and_left, and_right}
use Rattle.model_frame.proofs.Sizes.{body_size_lem, changes_size, records_size}
use Rattle.model_frame.proofs.Sound.{record_canon}
use Rattle.model_frame.proofs.SoundChange.{TakenChange, change_canon, taken_fine}
use Rattle.base_laws.specs.Wrote.{StandsAt}
use Rattle.base_bytes.specs.declared.writer.Writer.{Writer}
use Rattle.base_bytes.specs.Put.{Put}
use Rattle.base_laws.proofs.Runs.{numbers_end}
use Rattle.base_laws.proofs.StandsAt.{run_stands, run_counted}
use Rattle.frame_reader.specs.declared.Span.{Span}
use Rattle.frame_reader.specs.Answers.{span_of}
use Rattle.frame_op.specs.declared.Run as the-run
use Rattle.frame_op.specs.Answers.{run_of}
use Rattle.frame_fields.specs.declared.SessionId.{SessionId}
use Rattle.frame_fields.specs.declared.Summary as the-summary
use Rattle.frame_fields.specs.Answers.{key_of, summary_of}
use Rattle.frame_writer.specs.Encoding.{span_fits, run_reads, key_fits, summary_fits}
use Rattle.frame_writer.proofs.Fits.{span_length, numbers_read}
use Rattle.frame_writer.proofs.Encoded.{Ready, Unready}

-- ---- kinds of a fixed length

pub welcome_ready : (v e i : ℕ) → Ready v true (welcome e i) 17
unfolding fine
welcome_ready v e i = record { read = refl; texts = refl; size = sym (body_size_lem (welcome e i)) }

pub ack_ready : (v h n : ℕ) → Ready v true (ack h n) 13
unfolding fine
ack_ready v h n = record { read = refl; texts = refl; size = sym (body_size_lem (ack h n)) }

pub nack_ready : (v h : ℕ) (r : Reason) → Ready v true (nack h r) 6
unfolding fine
nack_ready v h r = record { read = refl; texts = refl; size = sym (body_size_lem (nack h r)) }

pub checked_ready : (v h e i : ℕ) → Ready v true (checked h e i) 21
unfolding fine
checked_ready v h e i = record { read = refl; texts = refl; size = sym (body_size_lem (checked h e i)) }

-- ---- Hello

pub kinds_ready : (src : List ℕ) (r : the-run.Run) → T (is_bytes src) → run_reads (read_num 2) src r ≡ true → StandsAt src r.at (r.count * 2) (run_bytes (bytes_of 2) (run_of (read_num 2) src r)) × (length (run_of (read_num 2) src r) ≡ r.count)
kinds_ready src r known e =
    let n : ℕ = r.count in
    let at : ℕ = r.at in
    let room : n * 2 ≤ length (drop at src) = leb-true (n * 2) (length (drop at src)) (numbers_read 2 n (drop at src) refl ∙ e) in
    let ends : ok tt (drop (at + n * 2) src) ≡ forget (many n (read_num 2) (drop at src)) = rw (← drop-drop (n * 2) at src) (sym (numbers_end 2 n (drop at src) room)) in
    let k : (length src - at) - (length src - (at + n * 2)) ≡ n * 2 = omega (arith, length-drop at src) in
    (rw k at (run_stands (read_num 2) (bytes_of 2) (λ v. v < 256 ^ 2) (num_canon 2) n src at (at + n * 2) known ends refl refl), run_counted (read_num 2) (bytes_of 2) (λ v. v < 256 ^ 2) (num_canon 2) n src at (at + n * 2) known ends)

module _ (src : List ℕ) (node : Span) (ks : the-run.Run) where
  pub hello_judged : {w k u t : Bool} → w ≡ span_fits src node → k ≡ run_reads (read_num 2) src ks → u ≡ utf8 (span_of src node) → ((w && k) && u) ≡ t → ((span_fits src node && run_reads (read_num 2) src ks) && utf8 (span_of src node)) ≡ t
  hello_judged ew ek eu e = rw (← ew, ← ek, ← eu) e

  pub hello_unfit : (v version epoch : ℕ) → ((span_fits src node && run_reads (read_num 2) src ks) && utf8 (span_of src node)) ≡ false → Unready v (span_fits src node && run_reads (read_num 2) src ks) (hello version epoch (span_of src node) (run_of (read_num 2) src ks))
  unfolding fine
  hello_unfit v version epoch e = record { unfit = e }

  module _ (known : T (is_bytes src)) (e : ((span_fits src node && run_reads (read_num 2) src ks) && utf8 (span_of src node)) ≡ true) where
    fit : (span_fits src node && run_reads (read_num 2) src ks) ≡ true
    fit = and_left (span_fits src node && run_reads (read_num 2) src ks) (utf8 (span_of src node)) e

    kinds_fit : StandsAt src ks.at (ks.count * 2) (run_bytes (bytes_of 2) (run_of (read_num 2) src ks)) × (length (run_of (read_num 2) src ks) ≡ ks.count)
    kinds_fit = kinds_ready src ks known (and_right (span_fits src node) (run_reads (read_num 2) src ks) fit)

    pub node_length : length (span_of src node) ≡ node.len
    node_length = span_length src node (and_left (span_fits src node) (run_reads (read_num 2) src ks) fit)

    pub hello_ready : (v version epoch : ℕ) {n : ℕ} → n ≡ 19 + node.len + ks.count * 2 → Ready v (span_fits src node && run_reads (read_num 2) src ks) (hello version epoch (span_of src node) (run_of (read_num 2) src ks)) n
    unfolding fine
    hello_ready v version epoch q = record {
      read = fit;
      texts = and_right (span_fits src node && run_reads (read_num 2) src ks) (utf8 (span_of src node)) e;
      size = omega (arith, q, body_size_lem (hello version epoch (span_of src node) (run_of (read_num 2) src ks)), node_length, kinds_fit.1);
    }

    pub hello_put : (version epoch : ℕ) {w v : Writer} → Put w (1 ∷ bytes_of 2 version ++ bytes_of 8 epoch ++ blob_bytes (span_of src node) ++ bytes_of 4 ks.count ++ take (ks.count * 2) (drop ks.at src)) v → Put w (body_bytes (hello version epoch (span_of src node) (run_of (read_num 2) src ks))) v
    unfolding body_bytes
    hello_put version epoch w = rw (kinds_fit.1, ← kinds_fit.0.same) w

-- ---- Bind and Bound

module _ (src : List ℕ) (k : SessionId) where
  pub bind_unfit : (v h e lag : ℕ) → (key_fits src k && fine_key (key_of src k)) ≡ false → Unready v (key_fits src k) (bind h e lag (key_of src k))
  unfolding fine
  bind_unfit v h e lag q = record { unfit = q }

  -- the lengths of the four texts
  pub record KeyLengths : Type 0 where
    pub begin_is : length (span_of src k.begin_string) ≡ k.begin_string.len
    pub sender_is : length (span_of src k.sender_comp_id) ≡ k.sender_comp_id.len
    pub target_is : length (span_of src k.target_comp_id) ≡ k.target_comp_id.len
    pub suffix_is : length (span_of src k.key_suffix) ≡ k.key_suffix.len

  pub key_lengths : (key_fits src k && fine_key (key_of src k)) ≡ true → KeyLengths
  key_lengths q =
      let b = span_fits src k.begin_string in
      let s = span_fits src k.sender_comp_id in
      let t = span_fits src k.target_comp_id in
      let x = span_fits src k.key_suffix in
      let all = and_left (((b && s) && t) && x) (fine_key (key_of src k)) q in
      let three = and_left ((b && s) && t) x all in
      let two = and_left (b && s) t three in
      record {
        begin_is = span_length src k.begin_string (and_left b s two);
        sender_is = span_length src k.sender_comp_id (and_right b s two);
        target_is = span_length src k.target_comp_id (and_right (b && s) t three);
        suffix_is = span_length src k.key_suffix (and_right ((b && s) && t) x all);
      }

  pub bind_ready : (v h e lag : ℕ) {n : ℕ} → (key_fits src k && fine_key (key_of src k)) ≡ true → n ≡ 37 + k.begin_string.len + k.sender_comp_id.len + k.target_comp_id.len + k.key_suffix.len → Ready v (key_fits src k) (bind h e lag (key_of src k)) n
  unfolding fine
  bind_ready v h e lag q s = record {
    read = and_left (key_fits src k) (fine_key (key_of src k)) q;
    texts = and_right (key_fits src k) (fine_key (key_of src k)) q;
    size = let l = key_lengths q in omega (arith, s, body_size_lem (bind h e lag (key_of src k)), l.begin_is, l.sender_is, l.target_is, l.suffix_is);
  }

module _ (v : ℕ) (src : List ℕ) (m : the-summary.Summary) where
  pub bound_unfit : (h : ℕ) → (summary_fits src m && fine_summary v (summary_of src m)) ≡ false → Unready v (summary_fits src m) (bound h (summary_of src m))
  unfolding fine
  bound_unfit h q = record { unfit = q }

  pub record SummaryLengths : Type 0 where
    pub stamp_is : length (span_of src m.created_at) ≡ m.created_at.len
    pub marks_is : length (span_of src m.marks) ≡ m.marks.len

  pub summary_lengths : (summary_fits src m && fine_summary v (summary_of src m)) ≡ true → SummaryLengths
  summary_lengths q =
      let s = span_fits src m.created_at in
      let t = span_fits src m.marks in
      let two = and_left (s && t) (fine_summary v (summary_of src m)) q in
      record { stamp_is = span_length src m.created_at (and_left s t two); marks_is = span_length src m.marks (and_right s t two) }

  pub bound_ready : (h : ℕ) {n : ℕ} → (summary_fits src m && fine_summary v (summary_of src m)) ≡ true → n ≡ 45 + m.created_at.len + m.marks.len → Ready v (summary_fits src m) (bound h (summary_of src m)) n
  unfolding fine
  bound_ready h q s = record {
    read = and_left (summary_fits src m) (fine_summary v (summary_of src m)) q;
    texts = and_right (summary_fits src m) (fine_summary v (summary_of src m)) q;
    size = let l = summary_lengths q in omega (arith, s, body_size_lem (bound h (summary_of src m)), l.stamp_is, l.marks_is);
  }

-- ---- Batch

put_as : {xs ys : List ℕ} {w v : Writer} → Put w xs v → xs ≡ ys → Put w ys v
put_as p e = rw e at p

regroup : (a b c d : List ℕ) → a ++ (b ++ c ++ d) ≡ a ++ b ++ c ++ d
regroup a b c d = simp append_assoc

-- a run that was read: how many items it has, and what holds of each
run_items_are : {A : Type 0} {p : Parser A} {f : A → List ℕ} {U : A → Type 0} → Canon [] p f U → (n : ℕ) (s : List ℕ) {xs : List A} {t : List ℕ} → T (is_bytes s) → many n p s ≡ ok xs t → (length xs ≡ n) × Each U xs
run_items_are {A} {p} {f} {U} c n s {xs} {t} h e =
    let w : Was (run_bytes f) (Run U n) s (ok xs t) = rw e at ((run_canon c n).reads s (bytes_each s h)) in
    w.1

module _ (v : ℕ) (src : List ℕ) (os rs : the-run.Run) where
  abbrev pub read : Bool
  read = run_reads (read_change v) src os && run_reads read_app_record src rs

  abbrev pub both : ℕ → ℕ → ℕ → Part → Frame
  both h e n p = batch h e n p (run_of (read_change v) src os) (run_of read_app_record src rs)

  pub ops_unread : (h e n : ℕ) (p : Part) {x : Fault} → many os.count (read_change v) (drop os.at src) ≡ bad x → Unready v read (both h e n p)
  ops_unread h e n p q = record { unfit = rw q }

  pub records_unread : (h e n : ℕ) (p : Part) {x : Fault} → many rs.count read_app_record (drop rs.at src) ≡ bad x → Unready v read (both h e n p)
  records_unread h e n p q = record { unfit = rw q (no (run_reads (read_change v) src os) (fine v (both h e n p))) }
    where
      no : (a b : Bool) → ((a && false) && b) ≡ false
      no true b = refl
      no false b = refl

  module _
      {s t : List ℕ} {k m : ℕ} (known : T (is_bytes src))
      (eo : many os.count (read_change v) (drop os.at src) ≡ ok (run_of (read_change v) src os) s) (so : StandsAt src os.at k (run_bytes change_bytes (run_of (read_change v) src os)))
      (er : many rs.count read_app_record (drop rs.at src) ≡ ok (run_of read_app_record src rs) t) (sr : StandsAt src rs.at m (run_bytes app_record_bytes (run_of read_app_record src rs)))
    where
      ops_are : (length (run_of (read_change v) src os) ≡ os.count) × Each (TakenChange v) (run_of (read_change v) src os)
      ops_are = run_items_are (change_canon v) os.count (drop os.at src) (bytes_drop os.at src known) eo

      records_are : (length (run_of read_app_record src rs) ≡ rs.count) × Each (λ (r : AppRecord). RangedRecord r × ByteRecord r) (run_of read_app_record src rs)
      records_are = run_items_are record_canon rs.count (drop rs.at src) (bytes_drop rs.at src known) er

      pub batch_ready : (h e n : ℕ) (p : Part) → Ready v read (batch h e n p (run_of (read_change v) src os) (run_of read_app_record src rs)) (30 + k + m)
      unfolding fine
      batch_ready h e n p = record {
        read = rw (eo, er);
        texts = taken_fine v (run_of (read_change v) src os) ops_are.1;
        size = omega (arith, body_size_lem (batch h e n p (run_of (read_change v) src os) (run_of read_app_record src rs)), so.size, sr.size, changes_size (run_of (read_change v) src os), records_size (run_of read_app_record src rs));
      }

      pub batch_put :
          (h e n : ℕ) (p : Part) {w u : Writer} →
          Put w ((4 ∷ bytes_of 4 h ++ bytes_of 8 e ++ bytes_of 8 n ++ part_number p ∷ bytes_of 4 os.count) ++ (run_bytes change_bytes (run_of (read_change v) src os) ++ bytes_of 4 rs.count ++ run_bytes app_record_bytes (run_of read_app_record src rs))) u →
          Put w (body_bytes (batch h e n p (run_of (read_change v) src os) (run_of read_app_record src rs))) u
      unfolding body_bytes
      batch_put h e n p w =
          rw (ops_are.0, records_are.0)
          (put_as w (regroup (4 ∷ bytes_of 4 h ++ bytes_of 8 e ++ bytes_of 8 n ++ part_number p ∷ bytes_of 4 os.count) (run_bytes change_bytes (run_of (read_change v) src os)) (bytes_of 4 rs.count) (run_bytes app_record_bytes (run_of read_app_record src rs))))
