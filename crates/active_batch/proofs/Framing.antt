-- Writing the frame of a batch piece by piece. Assumes nothing.
use mathlib.Core.Path.{◌≡◌, ◌∙◌}
use mathlib.Core.List.{List, [], ◌∷◌, ◌++◌, append_assoc, append-nil}
use Prim.Native.Nat.{ℕ, ◌+◌}
use native.Mathlib.Omega.{arith}
use lib.ListN.{length}
use Rattle.model_frame.specs.Bytes.{bytes_of, write}
use Rattle.model_frame.specs.Frame.{Change, Part, batch}
use Rattle.model_frame.specs.Parse.{run_bytes}
use Rattle.model_frame.specs.Writing.{change_bytes, part_number, body_bytes, encode}
use Rattle.model_frame.specs.Sizes.{sizes}
use Rattle.model_frame.proofs.Runs.{run_append, sizes_append}
use Rattle.model_frame.proofs.Sizes.{body_size_lem, encode_size}
use Rattle.base_bytes.specs.declared.writer.Writer.{Writer}
use Rattle.base_bytes.specs.Put.{Put}
use Rattle.base_bytes.proofs.Puts.{put_on}
use Rattle.active_header.specs.Ends.{Spans}

-- three runs of changes, one after another
pub put_three : (xs ys zs : List Change) {w v u t : Writer} → Put w (run_bytes change_bytes xs) v → Put v (run_bytes change_bytes ys) u → Put u (run_bytes change_bytes zs) t → Put w (run_bytes change_bytes (xs ++ (ys ++ zs))) t
put_three xs ys zs p q r = rw (run_append change_bytes xs (ys ++ zs), run_append change_bytes ys zs) (put_on p (put_on q r))

pub three_sizes : (xs ys zs : List Change) → sizes (xs ++ (ys ++ zs)) ≡ sizes xs + sizes ys + sizes zs
three_sizes xs ys zs = omega (arith, sizes_append xs (ys ++ zs), sizes_append ys zs)

-- the bytes of the frame
regroup : (s h cs z : List ℕ) → s ++ (h ++ cs ++ z ++ []) ≡ ((s ++ h) ++ cs) ++ z
regroup s h cs z = simp (append_assoc, append-nil)

body_is : (s : List ℕ) (h e n : ℕ) (p : Part) (cs : List Change)
    → s ++ body_bytes (batch h e n p cs []) ≡ ((s ++ (4 ∷ bytes_of 4 h ++ bytes_of 8 e ++ bytes_of 8 n ++ part_number p ∷ bytes_of 4 (length cs))) ++ run_bytes change_bytes cs) ++ bytes_of 4 0
unfolding body_bytes run_bytes
body_is s h e n p cs = regroup s (4 ∷ bytes_of 4 h ++ bytes_of 8 e ++ bytes_of 8 n ++ part_number p ∷ bytes_of 4 (length cs)) (run_bytes change_bytes cs) (bytes_of 4 0)

encode_is : (h e n : ℕ) (p : Part) (cs : List Change)
    → encode (batch h e n p cs []) ≡ ((bytes_of 4 (30 + sizes cs) ++ (4 ∷ bytes_of 4 h ++ bytes_of 8 e ++ bytes_of 8 n ++ part_number p ∷ bytes_of 4 (length cs))) ++ run_bytes change_bytes cs) ++ bytes_of 4 0
unfolding encode
encode_is h e n p cs =
    let size : length (body_bytes (batch h e n p cs [])) ≡ 30 + sizes cs = body_size_lem (batch h e n p cs []) ∙ omega arith in
    rw size (body_is (bytes_of 4 (30 + sizes cs)) h e n p cs)

-- its length, the head, the changes, and no application record
pub put_whole : (h e n : ℕ) (p : Part) (cs : List Change) {count size : ℕ} {last : List ℕ} {w₀ w₁ w₂ w₃ w₄ : Writer} → Spans cs count size
    → Put w₀ (bytes_of 4 (30 + size)) w₁ → Put w₁ (4 ∷ bytes_of 4 h ++ bytes_of 8 e ++ bytes_of 8 n ++ part_number p ∷ bytes_of 4 count) w₂
    → Put w₂ (run_bytes change_bytes cs) w₃ → Put w₃ (bytes_of 4 0) w₄ → last ≡ w₄.out.now → last ≡ write w₀.out.now w₀.at (encode (batch h e n p cs []))
put_whole h e n p cs s a b c d q =
    let w = put_on (put_on (put_on a b) c) d in
    rw (encode_is h e n p cs) (q ∙ (rw (s.counts, s.sums) at w.wrote.bytes))

pub frame_length : (h e n : ℕ) (p : Part) (cs : List Change) {count size : ℕ} → Spans cs count size → length (encode (batch h e n p cs [])) ≡ 34 + size
frame_length h e n p cs s = omega (arith, encode_size (batch h e n p cs []), s.sums)
