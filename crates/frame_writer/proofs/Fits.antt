-- Whether what a frame names stands in the source and can be written. Assumes nothing.
use mathlib.Core.Path.{◌≡◌, refl, sym, ap, ◌∙◌}
use mathlib.Core.Bool.{Bool, true, false, ◌&&◌, ◌||◌}
use mathlib.Core.List.{List, ◌∷◌}
use Prim.Native.Nat.{ℕ, zero, suc, ◌+◌, ◌*◌, ◌<◌}
use native.Mathlib.Nat.{suc-mul}
use native.Mathlib.Omega.{arith}
use borrow.Author.Tests.{leb-true, leb-false}
use lib.Dec.{leb}
use lib.ListN.{length, take, drop, length-drop}
use lib.Seq.{length-take-le}
use Rattle.model_text.specs.Utf8.{utf8}
use Rattle.model_text.specs.Printable.{is_marks, is_key}
use Rattle.model_text.specs.Stamp.{takes_stamp}
use Rattle.model_text.proofs.Laws.{marks_is, key_is}
use Rattle.model_frame.specs.Bytes.{le}
use Rattle.model_frame.specs.Frame.{truncated}
use Rattle.model_frame.specs.Parse.{is_empty, Res, ok, bad, and_then, read_bytes, read_num, many, forget}
use Rattle.model_frame.specs.Writing.{fine_key, fine_summary}
use Rattle.base_laws.proofs.Places.{num_whole}
use Rattle.base_laws.proofs.Runs.{numbers_end}
use Rattle.frame_reader.specs.declared.Span.{Span}
use Rattle.frame_reader.specs.Answers.{span_of}
use Rattle.frame_reader.proofs.Rules.{none_or_coded}
use Rattle.frame_fields.specs.declared.SessionId.{SessionId}
use Rattle.frame_fields.specs.declared.Summary.{Summary}
use Rattle.frame_fields.specs.Answers.{key_of, summary_of}
use Rattle.frame_writer.specs.Encoding.{span_fits, is_ok, key_fits, summary_fits}

-- ---- spans

pub span_length : (src : List ℕ) (p : Span) → span_fits src p ≡ true → length (span_of src p) ≡ p.len
span_length src p e =
    let k = leb-true (p.at + p.len) (length src) e in
    length-take-le p.len (drop p.at src) (omega (arith, length-drop p.at src))

-- ---- numbers in a row

is_ok_forget : {A : Type 0} (r : Res A) → is_ok r ≡ is_ok (forget r)
is_ok_forget (ok a s) = refl
is_ok_forget (bad e) = refl

is_ok_cons : {A : Type 0} (a : A) (m : Res (List A)) → is_ok (and_then m (λ xs s. ok (a ∷ xs) s)) ≡ is_ok m
is_ok_cons a (ok xs s) = refl
is_ok_cons a (bad e) = refl

num_lacks : (w : ℕ) (s : List ℕ) → leb w (length s) ≡ false → read_num w s ≡ bad truncated
unfolding read_num read_bytes
num_lacks w s e = rw e

numbers_short : (w n : ℕ) (s : List ℕ) → length s < n * w → is_ok (many n (read_num w) s) ≡ false
unfolding many
numbers_short w zero s h = absurd (omega arith)
numbers_short w (suc n) s h = go (leb w (length s)) refl (numbers_short w n (drop w s))
  where
    go : (t : Bool) → leb w (length s) ≡ t → (length (drop w s) < n * w → is_ok (many n (read_num w) (drop w s)) ≡ false) → is_ok (many (suc n) (read_num w) s) ≡ false
    go true e ih =
        let room = leb-true w (length s) e in
        rw (num_whole w s room, is_ok_cons (le (take w s)) (many n (read_num w) (drop w s))) (ih (omega (arith, suc-mul n w, length-drop w s)))
    go false e ih = rw (num_lacks w s e)

pub numbers_read : (w n : ℕ) (s : List ℕ) {k : ℕ} → k ≡ length s → leb (n * w) k ≡ is_ok (many n (read_num w) s)
numbers_read w n s {k} q = go (leb (n * w) k) refl
  where
    go : (t : Bool) → leb (n * w) k ≡ t → t ≡ is_ok (many n (read_num w) s)
    go true e = let h = leb-true (n * w) k e in sym (is_ok_forget (many n (read_num w) s) ∙ ap is_ok (numbers_end w n s (omega arith)))
    go false e = let h = leb-false (n * w) k e in sym (numbers_short w n s (omega arith))

-- ---- keys and summaries: a rule that only UTF-8 meets makes the test of UTF-8 superfluous

absorb : (u r : Bool) → (r ≡ true → u ≡ true) → (u && r) ≡ r
absorb true r h = refl
absorb false true h = h refl
absorb false false h = refl

pub session_says :
    (src : List ℕ) (k : SessionId) {w x y z v : Bool} →
    w ≡ span_fits src k.begin_string → x ≡ span_fits src k.sender_comp_id → y ≡ span_fits src k.target_comp_id → z ≡ span_fits src k.key_suffix →
    v ≡ is_key (span_of src k.begin_string) (span_of src k.sender_comp_id) (span_of src k.target_comp_id) (span_of src k.key_suffix) →
    ((((w && x) && y) && z) && v) ≡ (key_fits src k && fine_key (key_of src k))
unfolding fine_key
session_says src k {w} {x} {y} {z} {v} ew ex ey ez ev =
    let a = span_of src k.begin_string in
    let b = span_of src k.sender_comp_id in
    let c = span_of src k.target_comp_id in
    let d = span_of src k.key_suffix in
    let t = is_key a b c d in
    rw (ew, ex, ey, ez, ev, absorb (utf8 d) t (λ e. (key_is a b c d e).3.coded), absorb (utf8 c) t (λ e. (key_is a b c d e).2.coded), absorb (utf8 b) t (λ e. (key_is a b c d e).1.coded), absorb (utf8 a) t (λ e. (key_is a b c d e).0.coded))

pub summary_says :
    (version : ℕ) (src : List ℕ) (m : Summary) {w x v y : Bool} →
    w ≡ span_fits src m.created_at → x ≡ span_fits src m.marks →
    v ≡ (is_empty (span_of src m.created_at) || takes_stamp version (span_of src m.created_at)) → y ≡ is_marks (span_of src m.marks) →
    ((w && x) && (v && y)) ≡ (summary_fits src m && fine_summary version (summary_of src m))
unfolding fine_summary
summary_says version src m ew ex ev ey =
    let a = span_of src m.created_at in
    let b = span_of src m.marks in
    rw (ew, ex, ev, ey, absorb (utf8 a) (is_empty a || takes_stamp version a) (none_or_coded version a), absorb (utf8 b) (is_marks b) (λ e. (marks_is b e).coded))
