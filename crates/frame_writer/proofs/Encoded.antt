-- The four ways a frame's writing ends. Assumes nothing.
use mathlib.Core.Path.{◌≡◌, refl, ap, ◌∙◌}
use mathlib.Core.Bool.{Bool, true, false, ◌&&◌}
use mathlib.Core.List.{List}
use Prim.Native.Nat.{ℕ, ◌+◌, ◌<◌, ◌≤◌}
use native.Mathlib.Omega.{arith}
use borrow.Author.Tests.{lt-ltb, le-ltb}
use lib.ListN.{length, length-append}
use Rattle.model_frame.specs.Bytes.{bytes_of}
use Rattle.model_frame.specs.Frame.{Frame}
use Rattle.model_frame.specs.Reading.{max_body}
use Rattle.model_frame.specs.Writing.{body_bytes, encode, fine, write_outcome, took}
use Rattle.model_frame.proofs.Le.{length_bytes}
use Rattle.base_laws.specs.Wrote.{Wrote}
use Rattle.base_bytes.specs.declared.writer.Writer.{Writer}
use Rattle.base_bytes.specs.Put.{Put}
use Rattle.base_laws.proofs.Writes.{wrote_on}
use Rattle.std.specs.Prelude.{Ok, Err}
use Rattle.frame_writer.specs.declared.EncodeError.{EncodeError}
use Rattle.frame_writer.specs.Encoding.{frame_if, Encoded, Started}

module _ (version : ℕ) (t : Bool) (f : Frame) where
  -- a field can't be written
  pub record Unready : Type 0 where
    pub unfit : (t && fine version f) ≡ false

  pub encoded_unreadable : (out : List ℕ) → Unready → Encoded version (frame_if t f) out out (Err EncodeError.Unreadable)
  unfolding write_outcome
  encoded_unreadable out u = go t u.unfit
    where
      go : (t : Bool) → (t && fine version f) ≡ false → Encoded version (frame_if t f) out out (Err EncodeError.Unreadable)
      go true e = record { answer = rw e; area = rw e }
      go false e = record { answer = refl; area = refl }

  -- every field can be written, and the body takes n bytes
  pub record Ready (n : ℕ) : Type 0 where
    pub read : t ≡ true
    pub texts : fine version f ≡ true
    pub size : n ≡ length (body_bytes f)

  encode_length : {n : ℕ} → Ready n → length (encode f) ≡ 4 + n
  unfolding encode
  encode_length r = length-append (bytes_of 4 (length (body_bytes f))) (body_bytes f) ∙ omega (arith, length_bytes 4 (length (body_bytes f)), r.size)

  module _ {n : ℕ} {before after : List ℕ} (r : Ready n) where
    encoded_long : Started n before after (Err EncodeError.TooLong) → Encoded version (frame_if t f) before after (Err EncodeError.TooLong)
    unfolding write_outcome
    encoded_long s =
        let long : max_body < length (body_bytes f) = omega (arith, r.size, s.0) in
        record {
          answer = rw (r.read, r.texts, lt-ltb _ _ long);
          area = rw (r.read, r.texts, lt-ltb _ _ long) s.1;
        }

    encoded_full : Started n before after (Err EncodeError.NoRoom) → Encoded version (frame_if t f) before after (Err EncodeError.NoRoom)
    unfolding write_outcome
    encoded_full s =
        let short : length (body_bytes f) ≤ max_body = omega (arith, r.size, s.0) in
        let full : length before < length (encode f) = omega (arith, encode_length r, s.1) in
        record {
          answer = rw (r.read, r.texts, le-ltb _ _ short, lt-ltb _ _ full);
          area = rw (r.read, r.texts, le-ltb _ _ short, lt-ltb _ _ full) s.2;
        }

    -- the length wasn't written
    pub encoded_failed : (e : EncodeError) → Started n before after (Err e) → Encoded version (frame_if t f) before after (Err e)
    encoded_failed EncodeError.Unreadable s = absurd s
    encoded_failed EncodeError.TooLong s = encoded_long s
    encoded_failed EncodeError.NoRoom s = encoded_full s

    pub encoded_took : {last : List ℕ} {k end : ℕ} → Started n before after (Ok k) → Wrote after k (body_bytes f) last end → Encoded version (frame_if t f) before last (Ok end)
    unfolding write_outcome encode
    encoded_took {last} {k} {end} s w =
        let short : length (body_bytes f) ≤ max_body = omega (arith, r.size, s.0) in
        let fits : length (encode f) ≤ length before = omega (arith, encode_length r, s.1) in
        let whole : Wrote before 0 (encode f) last end = rw r.size at (wrote_on s.2 w) in
        let past : end ≡ length (encode f) = omega (arith, whole.past) in
        record {
          answer = rw (r.read, r.texts, le-ltb _ _ short, le-ltb _ _ fits) (ap took past);
          area = rw (r.read, r.texts, le-ltb _ _ short, le-ltb _ _ fits) whole.bytes;
        }

  -- the body was put behind the length, and the area ends as the writer left it
  pub encoded_put : {n : ℕ} {before last : List ℕ} {w v : Writer} → Ready n → Started n before w.out.now (Ok w.at) → Put w (body_bytes f) v → last ≡ v.out.now → Encoded version (frame_if t f) before last (Ok v.at)
  encoded_put r s p e = rw e (encoded_took r s p.wrote)
