-- There and back: a parser gives what was written, and leaves what stands after it. Assumes nothing.
use mathlib.Core.Path.{◌≡◌, refl}
use mathlib.Core.Bool.{true}
use mathlib.Core.List.{List, [], ◌∷◌, ◌++◌, append_assoc}
use Prim.Native.Nat.{ℕ, ◌+◌, ◌*◌, ◌^◌, ◌≤◌, ◌<◌}
use native.Mathlib.Nat.{mod-eq_of_lt, zero-mul, suc-mul}
use native.Mathlib.Omega.{arith}
use borrow.Author.Tests.{le-leb}
use lib.ListN.{length, length-append}
use lib.Seq.{take_at, drop_at}
use Rattle.model_text.specs.Utf8.{utf8}
use Rattle.model_frame.specs.Bytes.{le, bytes_of}
use Rattle.model_frame.specs.Parse.{ok, Parser, read_bytes, read_num, read_blob, read_text, read_count, many, run_bytes, Each}
use Rattle.model_frame.specs.Writing.{blob_bytes}
use Rattle.model_frame.proofs.Le.{length_bytes, le_bytes}

pub bytes_back : (bs rest : List ℕ) (n : ℕ) → length bs ≡ n → read_bytes n (bs ++ rest) ≡ ok bs rest
unfolding read_bytes
bytes_back bs rest n e =
    let l = length-append bs rest in
    let fits : n ≤ length (bs ++ rest) = omega arith in
    rw (le-leb n (length (bs ++ rest)) fits, take_at bs rest n e, drop_at bs rest n e)

pub num_back : (n v : ℕ) (rest : List ℕ) → v < 256 ^ n → read_num n (bytes_of n v ++ rest) ≡ ok v rest
unfolding read_num
num_back n v rest h = rw (bytes_back (bytes_of n v) rest n (length_bytes n v), le_bytes n v, mod-eq_of_lt h)

pub byte_back : (k : ℕ) (rest : List ℕ) → read_num 1 (k ∷ rest) ≡ ok k rest
unfolding read_num le
byte_back k rest =
    let e : k + 256 * 0 ≡ k = omega arith in
    rw (bytes_back (k ∷ []) rest 1 refl, e)

pub blob_back : (bs rest : List ℕ) → length bs < 2 ^ 32 → read_blob (blob_bytes bs ++ rest) ≡ ok bs rest
unfolding read_blob blob_bytes
blob_back bs rest h = rw (append_assoc, num_back 4 (length bs) (bs ++ rest) h, bytes_back bs rest (length bs) refl)

pub text_back : (bs rest : List ℕ) → length bs < 2 ^ 32 → utf8 bs ≡ true → read_text (blob_bytes bs ++ rest) ≡ ok bs rest
unfolding read_text
text_back bs rest h t = rw (blob_back bs rest h, t)

pub count_back : (min n : ℕ) (rest : List ℕ) → n < 2 ^ 32 → n * min ≤ length rest → read_count min (bytes_of 4 n ++ rest) ≡ ok n rest
unfolding read_count
count_back min n rest h fits = rw (num_back 4 n rest h, le-leb (n * min) (length rest) fits)

-- a run, where each item comes back
module _ {A : Type 0} (p : Parser A) (f : A → List ℕ) (P : A → Type 0) (back : (a : A) (rest : List ℕ) → P a → p (f a ++ rest) ≡ ok a rest) where
  pub run_back : (xs : List A) (rest : List ℕ) → Each P xs → many (length xs) p (run_bytes f xs ++ rest) ≡ ok xs rest
  unfolding many run_bytes
  run_back [] rest h = refl
  run_back (x ∷ xs) rest h = rw (append_assoc, back x (run_bytes f xs ++ rest) h.0, run_back xs rest h.1)

-- a run of items of at least m bytes each
pub run_long : {A : Type 0} (f : A → List ℕ) (m : ℕ) → ((a : A) → m ≤ length (f a)) → (xs : List A) → length xs * m ≤ length (run_bytes f xs)
unfolding run_bytes
run_long f m h [] = omega (arith, zero-mul m)
run_long f m h (x ∷ xs) = omega (arith, h x, run_long f m h xs, length-append (f x) (run_bytes f xs), suc-mul (length xs) m)
