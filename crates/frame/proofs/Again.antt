-- What was read is written again byte for byte, if the area has room for it: 8 and 1 never come. Assumes nothing.
use Prim.Native.Nat.{ℕ, ◌≤◌, ◌<◌}
use mathlib.Core.Path.{◌≡◌, refl, sym, ap, ◌∙◌}
use mathlib.Core.Bool.{cond}
use mathlib.Core.List.{List}
use mathlib.Core.Option.{some}
use native.Mathlib.Omega.{arith}
use borrow.Author.Tests.{lt-ltb, le-ltb}
use lib.Dec.{ltb, T}
use lib.ListN.{length, take}
use lib.Seq.{length-take-le}
use Rattle.model_frame.specs.Bytes.{is_bytes, write}
use Rattle.model_frame.specs.Frame as the_frame
use Rattle.model_frame.specs.Frame.{got}
use Rattle.model_frame.specs.Reading.{max_body, decode}
use Rattle.model_frame.specs.Writing.{body_bytes, encode, WriteOutcome, write_outcome, wrote, refused, area_after, took, write_refusal, write_answer}
use Rattle.model_frame.proofs.Sound.{decode_sound}
use Rattle.std.specs.Prelude.{Result, Ok, Err, Some}
use Rattle.frame_writer.specs.declared.EncodeError.{EncodeError}
use Rattle.frame_writer.specs.Encoding.{written_of, Encoded}
use Rattle.frame.specs.declared.Frame.{Frame}
use Rattle.frame.specs.Answers.{frame_of, reading_of, frame_in, Stands}

-- f is what the code read from b, g what the model reads: writing f from b gives the n bytes that were read, or 9
pub record Again (version : ℕ) (b : List ℕ) (f : Frame) (g : the_frame.Frame) (n : ℕ) : Type 0 where
  pub is : frame_in version b f ≡ some g
  pub within : n ≤ length b
  pub bytes : encode g ≡ take n b
  pub result : (room : ℕ) → write_outcome version (frame_in version b f) room ≡ cond (ltb room n) (refused 9) (wrote (encode g))

-- by the two promises of decode
pub read_again :
    (version : ℕ) (b : List ℕ) {f : Frame} {n : ℕ} {g : the_frame.Frame} → T (is_bytes b) → decode version b ≡ got g n →
    reading_of version b (Ok (Some (f, n))) ≡ decode version b → Stands version b f n → Again version b f g n
unfolding write_outcome
read_again version b {f} {n} {g} t e read s =
    let a = decode_sound version b t e in
    let twice : got (frame_of version (take n b) f) n ≡ got g n = read ∙ e in
    let same : frame_of version (take n b) f ≡ g = cc in
    let whole : frame_in version b f ≡ some g = rw s.all (ap some (s.same ∙ same)) in
    record {
      is = whole;
      within = a.within;
      bytes = sym a.same;
      result = λ room. rw (whole, a.writable.texts, le-ltb max_body (length (body_bytes g)) a.writable.short, ← a.size);
    }

-- ---- decode, then encode: the answer and the area

pub record WrittenAgain (b : List ℕ) (n : ℕ) (before after : List ℕ) (w : Result ℕ EncodeError) : Type 0 where
  pub room : n ≤ length before → (w ≡ Ok n) × (after ≡ write before 0 (take n b))
  pub no_room : length before < n → (w ≡ Err EncodeError.NoRoom) × (after ≡ before)

is_took : (w : Result ℕ EncodeError) (k : ℕ) → written_of w ≡ took k → w ≡ Ok k
is_took (Ok m) k e = cc
is_took (Err x) k e = cc

is_no_room : (w : Result ℕ EncodeError) → written_of w ≡ write_refusal 9 → w ≡ Err EncodeError.NoRoom
is_no_room (Ok m) e = cc
is_no_room (Err EncodeError.Unreadable) e = let z : ◌≡◌ {A = ℕ} 8 9 = cc in absurd (omega arith)
is_no_room (Err EncodeError.TooLong) e = let z : ◌≡◌ {A = ℕ} 1 9 = cc in absurd (omega arith)
is_no_room (Err EncodeError.NoRoom) e = refl

-- by the promises of decode and the promise of encode
pub written_again :
    (version : ℕ) (b before after : List ℕ) {f : Frame} {n : ℕ} {w : Result ℕ EncodeError} → T (is_bytes b) →
    reading_of version b (Ok (Some (f, n))) ≡ decode version b → Stands version b f n → Encoded version (frame_in version b f) before after w →
    WrittenAgain b n before after w
written_again version b before after {f} {n} {w} t read s d =
    let a = read_again version b t (sym read) read s in
    let o = write_outcome version (frame_in version b f) (length before) in
    record {
      room =
          λ h.
          let is : o ≡ wrote (take n b) = a.result (length before) ∙ rw (le-ltb (length before) n h) (ap wrote a.bytes) in
          let count : write_answer o ≡ took n = ap write_answer is ∙ ap took (length-take-le n b a.within) in
          (is_took w n (d.answer ∙ count), d.area ∙ ap (λ (x : WriteOutcome). area_after x before) is);
      no_room =
          λ h.
          let is : o ≡ refused 9 = a.result (length before) ∙ rw (lt-ltb (length before) n h) in
          (is_no_room w (d.answer ∙ ap write_answer is), d.area ∙ ap (λ (x : WriteOutcome). area_after x before) is);
    }
