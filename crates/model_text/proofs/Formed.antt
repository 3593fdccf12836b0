-- What a well formed sequence is, taken apart. Assumes nothing.
use mathlib.Core.Path.{◌≡◌, refl, ap, ◌∙◌}
use mathlib.Core.Bool.{Bool, true, false, ◌&&◌, and-false, false≢true}
use mathlib.Core.List.{List, [], ◌∷◌}
use Prim.Native.Nat.{ℕ, zero, suc, ◌-◌, ◌%◌, ◌≤◌, ◌<◌}
use native.Mathlib.Omega.{arith}
use borrow.Author.Tests.{le-leb, lt-leb, leb-true}
use lib.Dec.{leb}
use lib.ListN.{length, drop}
pub use Rattle.std.specs.Cmp.{first_so as and_l, second_so as and_r}
use Rattle.model_text.specs.Utf8.{tails, joined_to, own_bits, is_tail, is_surrogate, is_scalar, fitting, least, well_formed, utf8_from}

-- ---- a sequence's bytes are there

tails_short : (k : ℕ) (l : List ℕ) → length l < k → tails k l ≡ false
tails_short zero l h = absurd (omega arith)
tails_short (suc k) [] h = refl
tails_short (suc k) (b ∷ l) h = ap (λ (t : Bool). is_tail b && t) (tails_short k l (omega arith)) ∙ and-false (is_tail b)

tails_long : (k : ℕ) (l : List ℕ) → tails k l ≡ true → k ≤ length l
tails_long zero l e = omega arith
tails_long (suc k) [] e = absurd (false≢true e)
tails_long (suc k) (b ∷ l) e = let h : k ≤ length l = tails_long k l (and_r (is_tail b) (tails k l) e) in omega arith

pub record Formed (n a : ℕ) (l : List ℕ) : Type 0 where
  pub some : 1 ≤ n
  pub long : n - 1 ≤ length l
  pub tailed : tails (n - 1) l ≡ true
  pub fits : fitting n (joined_to (own_bits n a) (n - 1) l) ≡ true

pub formed : (n a : ℕ) (l : List ℕ) → well_formed n a l ≡ true → Formed n a l
unfolding well_formed
formed n a l e =
    let t : Bool = tails (n - 1) l in
    let f : Bool = fitting n (joined_to (own_bits n a) (n - 1) l) in
    let r : (t && f) ≡ true = and_r (leb 1 n) (t && f) e in
    let h : t ≡ true = and_l t f r in
    record { some = leb-true 1 n (and_l (leb 1 n) (t && f) e); long = tails_long (n - 1) l h; tailed = h; fits = and_r t f r }

pub formed_short : (n a : ℕ) (l : List ℕ) → length l < n - 1 → well_formed n a l ≡ false
unfolding well_formed
formed_short n a l h = rw (tails_short (n - 1) l h) (and-false (leb 1 n))

pub formed_none : (a : ℕ) (l : List ℕ) → well_formed 0 a l ≡ false
unfolding well_formed
formed_none a l = refl

pub formed_one : (a : ℕ) (l : List ℕ) → well_formed 1 a l ≡ true
unfolding well_formed fitting least own_bits is_scalar is_surrogate
formed_one a l = simp (le-leb 0 (a % 128) (omega arith), le-leb (a % 128) 0x10FFFF (omega arith), lt-leb 0xD800 (a % 128) (omega arith))

-- what is left after the k bytes of a sequence
pub skip : (k : ℕ) (l : List ℕ) → utf8_from k l ≡ utf8_from 0 (drop k l)
skip zero l = refl
skip (suc k) [] = refl
skip (suc k) (b ∷ l) = skip k l
