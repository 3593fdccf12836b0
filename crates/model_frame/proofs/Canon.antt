-- The other way: what was read is what would be written. `Canon pre p g W`: where p reads b off the bytes s and leaves s', `pre ++ s` is `g b ++ s'`, and W holds of b.
-- Assumes nothing.
use mathlib.Core.Path.{◌≡◌, refl, sym, ap, ◌∙◌}
use mathlib.Core.Bool.{Bool, true, false, cond}
use mathlib.Core.List.{List, [], ◌∷◌, ◌++◌, append_assoc}
use Prim.Native.Nat.{ℕ, zero, suc, ◌*◌, ◌^◌, ◌<◌}
use native.Mathlib.Nat.{mod-eq_of_lt}
use borrow.Author.Tests.{leb-true, eqb-true}
use lib.Dec.{T, leb, eqb}
use lib.ListN.{length, take, drop, take-append-drop}
use lib.Seq.{length-take-le}
use Rattle.model_text.specs.Utf8.{utf8}
use Rattle.model_frame.specs.Bytes.{is_bytes, bytes_of}
use Rattle.model_frame.specs.Frame.{Fault, truncated, bad_text}
use Rattle.model_frame.specs.Parse.{Res, ok, bad, Parser, and_then, ◌>>=◌, pure, fail, read_bytes, read_num, read_blob, read_text, read_count, many, run_bytes, Each}
use Rattle.model_frame.specs.Writing.{blob_bytes}
use Rattle.model_frame.proofs.Le.{Byte, each_bytes, each_take, each_drop, bytes_le, le_below}

abbrev pub Was : {B : Type 0} → (B → List ℕ) → (B → Type 0) → List ℕ → Res B → Type 0
Was g W whole (ok b s') = (whole ≡ g b ++ s') × W b × Each Byte s'
Was g W whole (bad e) = Unit {0}

pub record Canon {B : Type 0} (pre : List ℕ) (p : Parser B) (g : B → List ℕ) (W : B → Type 0) : Type 0 where
  pub reads : (s : List ℕ) → Each Byte s → Was g W (pre ++ s) (p s)

-- ---- each way to make a parser

pub canon_done : {B : Type 0} {pre : List ℕ} {b : B} {g : B → List ℕ} {W : B → Type 0} → pre ≡ g b → W b → Canon pre (pure b) g W
canon_done e w = record { reads = λ s h. (ap (λ (l : List ℕ). l ++ s) e, w, h) }

pub canon_fail : {B : Type 0} {pre : List ℕ} {e : Fault} {g : B → List ℕ} {W : B → Type 0} → Canon pre (fail e) g W
canon_fail = record { reads = λ s h. tt }

pub canon_cond : {B : Type 0} {pre : List ℕ} (t : Bool) {p q : Parser B} {g : B → List ℕ} {W : B → Type 0} → (t ≡ true → Canon pre p g W) → (t ≡ false → Canon pre q g W) → Canon pre (cond t p q) g W
canon_cond true y n = y refl
canon_cond false y n = n refl

-- a value that is taken where a test of it holds
pub canon_test : {B : Type 0} {pre : List ℕ} (t : Bool) (b : B) (e : Fault) {g : B → List ℕ} {W : B → Type 0} → pre ≡ g b → (t ≡ true → W b) → Canon pre (cond t (pure b) (fail e)) g W
canon_test t b e q w = canon_cond t (λ y. canon_done q (w y)) (λ n. canon_fail)

-- a row of a table of tags: where the tag is the row's, the row's fields
pub canon_row : {B : Type 0} {k : ℕ} (n : ℕ) {p q : Parser B} {g : B → List ℕ} {W : B → Type 0} → Canon (n ∷ []) p g W → Canon (k ∷ []) q g W → Canon (k ∷ []) (cond (eqb k n) p q) g W
canon_row {k = k} n c d = canon_cond (eqb k n) (λ e. rw (eqb-true k n e) c) (λ _. d)

module _ {A B : Type 0} (pre : List ℕ) (e : A → List ℕ) (U : A → Type 0) (f : A → Parser B) (g : B → List ℕ) (W : B → Type 0) where
  then_was : (s : List ℕ) (r : Res A) → Was e U s r → ((a : A) → U a → Canon (pre ++ e a) (f a) g W) → Was g W (pre ++ s) (and_then r f)
  then_was s (ok a s') w k =
      let q : pre ++ s ≡ (pre ++ e a) ++ s' = ap (λ (l : List ℕ). pre ++ l) w.0 ∙ sym (append_assoc pre (e a) s') in
      rw q ((k a w.1).reads s' w.2)
  then_was s (bad x) w k = tt

pub canon_then :
    {A B : Type 0} {pre : List ℕ} {p : Parser A} {e : A → List ℕ} {U : A → Type 0} {f : A → Parser B} {g : B → List ℕ} {W : B → Type 0} →
    Canon [] p e U → ((a : A) → U a → Canon (pre ++ e a) (f a) g W) → Canon pre (p >>= f) g W
canon_then {pre = pre} {p = p} {e = e} {U = U} {f = f} {g = g} {W = W} c k = record { reads = λ s h. then_was pre e U f g W s (p s) (c.reads s h) k }

module _ {A : Type 0} (pre : List ℕ) (e : A → List ℕ) (U : A → Type 0) (g : A → List ℕ) (W : A → Type 0) where
  last_was : (s : List ℕ) (r : Res A) → Was e U s r → ((a : A) → U a → (pre ++ e a ≡ g a) × W a) → Was g W (pre ++ s) r
  last_was s (ok a s') w k =
      let q : pre ++ s ≡ (pre ++ e a) ++ s' = ap (λ (l : List ℕ). pre ++ l) w.0 ∙ sym (append_assoc pre (e a) s') in
      (q ∙ ap (λ (l : List ℕ). l ++ s') (k a w.1).0, (k a w.1).1, w.2)
  last_was s (bad x) w k = tt

-- the last read of a row
pub canon_last :
    {A : Type 0} {pre : List ℕ} {p : Parser A} {e : A → List ℕ} {U : A → Type 0} {g : A → List ℕ} {W : A → Type 0} →
    Canon [] p e U → ((a : A) → U a → (pre ++ e a ≡ g a) × W a) → Canon pre p g W
canon_last {pre = pre} {p = p} {e = e} {U = U} {g = g} {W = W} c k = record { reads = λ s h. last_was pre e U g W s (p s) (c.reads s h) k }

-- ---- bytes, numbers, blobs, texts

abbrev pub Bytes : ℕ → List ℕ → Type 0
Bytes n bs = (length bs ≡ n) × Each Byte bs

pub bytes_canon : (n : ℕ) → Canon [] (read_bytes n) (λ bs. bs) (Bytes n)
unfolding read_bytes
bytes_canon n = record { reads = λ s h. go s h (leb n (length s)) refl }
  where
    go : (s : List ℕ) → Each Byte s → (t : Bool) → leb n (length s) ≡ t → Was (λ bs. bs) (Bytes n) s (cond t (ok (take n s) (drop n s)) (bad truncated))
    go s h true e = (sym (take-append-drop n s), (length-take-le n s (leb-true n (length s) e), each_take n s h), each_drop n s h)
    go s h false e = tt

pub num_canon : (n : ℕ) → Canon [] (read_num n) (bytes_of n) (λ v. v < 256 ^ n)
unfolding read_num
num_canon n = canon_then (bytes_canon n) (λ bs h. canon_done (rw (← h.0) (sym (bytes_le bs h.1))) (rw (← h.0) (le_below bs h.1)))

abbrev pub one : ℕ → List ℕ
one k = k ∷ []

pub byte_canon : Canon [] (read_num 1) one Byte
unfolding bytes_of
byte_canon = canon_last (num_canon 1) (λ v h. (rw (mod-eq_of_lt h), h))

-- a blob's bytes, and a text's
abbrev pub Blob : List ℕ → Type 0
Blob bs = (length bs < 2 ^ 32) × T (is_bytes bs)

abbrev pub Text : List ℕ → Type 0
Text bs = Blob bs × (utf8 bs ≡ true)

pub blob_canon : Canon [] read_blob blob_bytes Blob
unfolding read_blob blob_bytes
blob_canon = canon_then (num_canon 4) (λ n h. canon_last (bytes_canon n) (λ bs w. (rw w.0 refl, (rw w.0 h, each_bytes bs w.1))))

pub text_canon : Canon [] read_text blob_bytes Text
unfolding read_text
text_canon = canon_then blob_canon (λ bs h. canon_test (utf8 bs) bs bad_text refl (λ t. (h, t)))

-- ---- counts and runs

pub count_canon : (min : ℕ) → Canon [] (read_count min) (bytes_of 4) (λ n. n < 256 ^ 4)
unfolding read_count
count_canon min = canon_then (num_canon 4) (λ n h. record { reads = λ s each. go n h s each (leb (n * min) (length s)) })
  where
    go : (n : ℕ) → n < 256 ^ 4 → (s : List ℕ) → Each Byte s → (t : Bool) → Was (bytes_of 4) (λ n. n < 256 ^ 4) (bytes_of 4 n ++ s) (cond t (ok n s) (bad truncated))
    go n h s each true = (refl, h, each)
    go n h s each false = tt

abbrev pub Run : {A : Type 0} → (A → Type 0) → ℕ → List A → Type 0
Run U n xs = (length xs ≡ n) × Each U xs

pub run_canon : {A : Type 0} {p : Parser A} {f : A → List ℕ} {U : A → Type 0} → Canon [] p f U → (n : ℕ) → Canon [] (many n p) (run_bytes f) (Run U n)
unfolding many run_bytes
run_canon c zero = canon_done refl (refl, tt)
run_canon c (suc n) = canon_then c (λ x h. canon_then (run_canon c n) (λ xs k. canon_done refl (ap suc k.0, (h, k.1))))

-- a count and as many items
pub counted_canon : {A : Type 0} {p : Parser A} {f : A → List ℕ} {U : A → Type 0} (min : ℕ) → Canon [] p f U → Canon [] (read_count min >>= (λ n. many n p)) (λ xs. bytes_of 4 (length xs) ++ run_bytes f xs) (λ xs. (length xs < 2 ^ 32) × Each U xs)
counted_canon min c = canon_then (count_canon min) (λ n h. canon_last (run_canon c n) (λ xs w. (rw w.0 refl, (rw w.0 h, w.1))))
