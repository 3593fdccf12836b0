-- A frame that was written is read again from the area, by the promises of `Frame::encode` and `Frame::decode`. Assumes nothing.
use Prim.Native.Nat.{ℕ, ◌≤◌}
use mathlib.Core.Path.{◌≡◌, refl, sym, ap, ◌∙◌}
use mathlib.Core.Bool.{Bool, true, false, cond}
use mathlib.Core.List.{List, ◌++◌}
use native.Mathlib.Nat.{zero-add}
use native.Mathlib.Omega.{arith}
use borrow.Author.Tests.{ltb-false}
use lib.Dec.{T, ltb}
use lib.ListN.{length, drop}
use lib.Seq.{drop_at}
use mir.Val.{Val}
use Rattle.model_frame.specs.Bytes.{is_bytes, write}
use Rattle.model_frame.specs.Frame as the_frame
use Rattle.model_frame.specs.Frame.{got}
use Rattle.model_frame.specs.Reading.{max_body, decode}
use Rattle.model_frame.specs.Writing.{body_bytes, encode, fine, shown, WriteOutcome, write_outcome, wrote, refused, area_after, took, write_refusal, write_answer}
use Rattle.model_frame.proofs.RoundTrip.{decode_encode}
use Rattle.base_laws.proofs.Little.{write_is}
use Rattle.std.specs.Prelude as prelude
use Rattle.std.specs.Prelude.{Result, Ok, Err}
use Rattle.frame_reader.specs.declared.FrameError.{FrameError}
use Rattle.frame_writer.specs.declared.EncodeError.{EncodeError}
use Rattle.frame_writer.specs.Encoding.{error_number, frame_if, Encoded}
use Rattle.frame.specs.declared.Frame.{Frame}
use Rattle.frame.specs.Answers.{frame_of, reading_of, readable, frame_in}
use Rattle.theorem_round_trip.specs.RoundTrip.{is_refused, Survives}
use Rattle.theorem_round_trip.proofs.Ranges.{IsFrame, ranged}

-- what was written, where n bytes were
record WasWritten (version : ℕ) (t : Bool) (g : the_frame.Frame) (room n : ℕ) : Type 0 where
  stood : t ≡ true
  texts : fine version g ≡ true
  short : length (body_bytes g) ≤ max_body
  fitted : length (encode g) ≤ room
  many : n ≡ length (encode g)
  bytes : write_outcome version (frame_if t g) room ≡ wrote (encode g)

was_written : (version : ℕ) (t : Bool) (g : the_frame.Frame) (room n : ℕ) → took n ≡ write_answer (write_outcome version (frame_if t g) room) → WasWritten version t g room n
unfolding write_outcome
was_written version false g room n e =
    let z : ◌≡◌ {A = ℕ} 0 1 = cc in
    absurd (omega arith)
was_written version true g room n e = go (fine version g) refl (ltb max_body (length (body_bytes g))) refl (ltb room (length (encode g))) refl e
  where
    go :
        (a : Bool) → fine version g ≡ a → (b : Bool) → ltb max_body (length (body_bytes g)) ≡ b → (c : Bool) → ltb room (length (encode g)) ≡ c →
        took n ≡ write_answer (cond a (cond b (refused 1) (cond c (refused 9) (wrote (encode g)))) (refused 8)) → WasWritten version true g room n
    go false ea b eb c ec q =
        let z : ◌≡◌ {A = ℕ} 0 1 = cc in
        absurd (omega arith)
    go true ea true eb c ec q =
        let z : ◌≡◌ {A = ℕ} 0 1 = cc in
        absurd (omega arith)
    go true ea false eb true ec q =
        let z : ◌≡◌ {A = ℕ} 0 1 = cc in
        absurd (omega arith)
    go true ea false eb false ec q =
        record {
          stood = refl;
          texts = ea;
          short = ltb-false max_body (length (body_bytes g)) eb;
          fitted = ltb-false room (length (encode g)) ec;
          many = cc;
          bytes = rw (ea, eb, ec);
        }

front : (before bs : List ℕ) → length bs ≤ length before → write before 0 bs ≡ bs ++ drop (length bs) before
front before bs h = write_is before 0 bs (omega arith) ∙ ap (λ (k : ℕ). bs ++ drop k before) (zero-add (length bs))

module _ (version : ℕ) (src : List ℕ) (f : Frame) (before after : List ℕ) where
  pub survives :
      {vs : List Val} (n : ℕ) (d : Result (prelude.Option (Frame × ℕ)) FrameError) → T (is_bytes src) → IsFrame f vs → Encoded version (frame_in version src f) before after (Ok n) →
      reading_of version after d ≡ decode version after → Survives version src f before after (Ok (record { read = d; written = n }))
  survives {vs} n d known g done read =
      let f' : the_frame.Frame = frame_of version src f in
      let a = was_written version (readable version src f) f' (length before) n done.answer in
      let o : write_outcome version (frame_in version src f) (length before) ≡ wrote (encode f') = a.bytes in
      let area : after ≡ encode f' ++ drop (length (encode f')) before = done.area ∙ ap (λ (x : WriteOutcome). area_after x before) o ∙ front before (encode f') a.fitted in
      (read ∙ ap (decode version) area ∙ decode_encode version f' (drop (length (encode f')) before) (record { ranged = ranged version src f known g a.stood; texts = a.texts; short = a.short }) ∙ ap (got (shown f')) (sym a.many), rw a.many (ap (drop (length (encode f'))) area ∙ drop_at (encode f') (drop (length (encode f')) before) (length (encode f')) refl))

  pub not_written : (e : EncodeError) → Encoded version (frame_in version src f) before after (Err e) → Survives version src f before after (Err e)
  not_written x done = go (write_outcome version (frame_in version src f) (length before)) done.answer done.area
    where
      go : (o : WriteOutcome) → write_refusal (error_number x) ≡ write_answer o → after ≡ area_after o before → (is_refused o ≡ true) × (after ≡ before)
      go (wrote bs) e area =
          let y : ◌≡◌ {A = ℕ} 0 1 = cc in
          absurd (omega arith)
      go (refused k) e area = (refl, area)
