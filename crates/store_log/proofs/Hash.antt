-- FNV over lists. Assumes nothing.
use Rattle.std.proofs.Common.{◌≡◌, ℕ, zero, suc, ◌+◌, ◌-◌, ◌*◌, ◌/◌, ◌%◌, ◌^◌, ◌<◌, ◌≤◌, List, [], ◌∷◌, ◌++◌, length, get_or, drop, sym, refl, ap, ◌∙◌, mod-lt, mod-eq_of_lt, mul_assoc, mul_comm, div-lt_iff_lt-mul, add_comm, pow-suc, div-add-mod', mul-one, mul-add, add-one, arith, length-append, drop_of_length-le, drop-cons}
use native.Mathlib.Nat.{pow-succ', add-mul-mod_self_right}
use lib.Bits.{bit_and, bit_xor, and_mask, xor_zero_r}
use Rattle.model_session.proofs.Summing.{step_small}
use Rattle.model_frame.specs.Bytes.{bytes_of}
use Rattle.model_session.specs.Summary.{fnv_step, fnv, fnv_message}
use Rattle.store_log.specs.Log.{msg}

-- ---- lists

pub fnv_append : (h : ℕ) (a b : List ℕ) → fnv h (a ++ b) ≡ fnv (fnv h a) b
fnv_append h [] b = refl
fnv_append h (x ∷ a) b = fnv_append (fnv_step h x) a b

pub fnv_next : (h r r' : ℕ) (s : List ℕ) (i : ℕ) → fnv h s ≡ fnv r (drop i s) → i < length s → r' ≡ fnv_step r (get_or s i 0) → fnv h s ≡ fnv r' (drop (i + 1) s)
fnv_next h r r' s i e l q = e ∙ rw (drop-cons s i 0 l, q, add-one)

pub fnv_done : (h r : ℕ) (s : List ℕ) (i : ℕ) → fnv h s ≡ fnv r (drop i s) → length s ≤ i → r ≡ fnv h s
fnv_done h r s i e l = sym (e ∙ ap (fnv r) (drop_of_length-le s l))

-- ---- a number's eight bytes, the last of which are 0

abbrev prime : ℕ
prime = 0x100000001b3

abbrev powers : List ℕ
powers =
    1 ∷ 0x100000001b3 ∷ 0x366000002e329 ∷ 0x8a97b0004e7feab ∷ 0x9ffaac085635bc91 ∷ 0xcaee32a7d4f6a63 ∷ 0xdc966432edf1c639
    ∷ 0xc5527b8a51d3d2db ∷ 0x1efac7090aef4a21 ∷ []

powers_at : (n : ℕ) → n ≤ 8 → get_or powers n 0 ≡ prime ^ n % 2 ^ 64
powers_at zero h = refl
powers_at (suc zero) h = refl
powers_at (suc (suc zero)) h = refl
powers_at (suc (suc (suc zero))) h = refl
powers_at (suc (suc (suc (suc zero)))) h = refl
powers_at (suc (suc (suc (suc (suc zero))))) h = refl
powers_at (suc (suc (suc (suc (suc (suc zero)))))) h = refl
powers_at (suc (suc (suc (suc (suc (suc (suc zero))))))) h = refl
powers_at (suc (suc (suc (suc (suc (suc (suc (suc zero)))))))) h = refl
powers_at (suc (suc (suc (suc (suc (suc (suc (suc (suc n))))))))) h = absurd (omega arith)

mod_right : (x y N : ℕ) → x * (y % N) % N ≡ x * y % N
mod_right x y N =
    let e : x * y ≡ x * (y % N) + x * (y / N) * N =
    ap (λ (z : ℕ). x * z) (sym (div-add-mod' y N)) ∙ mul-add x (y / N * N) (y % N) ∙ add_comm (x * (y / N * N)) (x * (y % N)) ∙ ap (λ (z : ℕ). x * (y % N) + z) (sym (mul_assoc x (y / N) N)) in
    sym (ap (λ (z : ℕ). z % N) e ∙ add-mul-mod_self_right (x * (y % N)) (x * (y / N)) N)

mod_left : (x y N : ℕ) → x % N * y % N ≡ x * y % N
mod_left x y N = ap (λ (z : ℕ). z % N) (mul_comm (x % N) y) ∙ mod_right y x N ∙ ap (λ (z : ℕ). z % N) (mul_comm y x)

-- n bytes 0 are one product
zeros : (n r : ℕ) → r < 2 ^ 64 → fnv r (bytes_of n 0) ≡ r * (prime ^ n % 2 ^ 64) % 2 ^ 64
unfolding bytes_of fnv_step
zeros zero r h = sym (ap (λ (z : ℕ). z % 2 ^ 64) (mul-one r) ∙ mod-eq_of_lt h)
zeros (suc n) r h =
    let q : ℕ = r * prime % 2 ^ 64 in
    let e : bit_xor r 0 * prime % 2 ^ 64 ≡ q = ap (λ (z : ℕ). z * prime % 2 ^ 64) (xor_zero_r r) in
    ap (λ (z : ℕ). fnv z (bytes_of n 0)) e ∙ zeros n q (mod-lt (r * prime) (omega arith))
    ∙ mod_right q (prime ^ n) (2 ^ 64) ∙ mod_left (r * prime) (prime ^ n) (2 ^ 64)
    ∙ ap (λ (z : ℕ). z % 2 ^ 64) (mul_assoc r prime (prime ^ n) ∙ ap (λ (z : ℕ). r * z) (sym (pow-succ' prime n)))
    ∙ sym (mod_right r (prime ^ suc n) (2 ^ 64))

pub record Word (t r left y : ℕ) : Type 0 where
  pub few : left ≤ 8
  pub small : y < 256 ^ left
  pub fits : r < 2 ^ 64
  pub is : t ≡ fnv r (bytes_of left y)

word_suc : (t r r' n y : ℕ) → Word t r (suc n) y → r' ≡ fnv_step r (bit_and y 255) → Word t r' n (y / 256)
unfolding bytes_of
word_suc t r r' n y i q = record {
  fits = rw q (step_small r (bit_and y 255));
  few = omega (arith, i.few);
  small = (div-lt_iff_lt-mul {k = 256} {x = y} {y = 256 ^ n} (omega arith)).1 (rw (← pow-suc 256 n) i.small);
  is = i.is ∙ rw (q, and_mask y 8);
}

pub word_next : (t r r' left y : ℕ) → Word t r left y → 0 < y → r' ≡ fnv_step r (bit_and y 255) → Word t r' (left - 1) (y / 256)
word_next t r r' zero y i h q = absurd (omega (arith, i.small))
word_next t r r' (suc n) y i h q =
    let e : suc n - 1 ≡ n = omega arith in
    rw e (word_suc t r r' n y i q)

pub word_ends : (t r s left y : ℕ) → Word t r left y → y ≤ 0 → s ≡ r * get_or powers left 0 % 2 ^ 64 → s ≡ t
word_ends t r s left y i z e =
    let none : y ≡ 0 = omega arith in
    e ∙ ap (λ (k : ℕ). r * k % 2 ^ 64) (powers_at left i.few) ∙ sym (i.is ∙ ap (λ (k : ℕ). fnv r (bytes_of left k)) none ∙ zeros left r i.fits)

-- a message whose bytes stand in two parts
pub hash_parts : (h n a q c r : ℕ) (x y : List ℕ) → a ≡ fnv h (bytes_of 8 n) → q ≡ fnv a (bytes_of 8 (length x + length y)) → c ≡ fnv q x → r ≡ fnv c y → r ≡ fnv_message h (msg n (x ++ y))
unfolding fnv_message
hash_parts h n a q c r x y ea eq ec er =
    let num : List ℕ = bytes_of 8 n in
    let len : List ℕ = bytes_of 8 (length x + length y) in
    let lm : length (x ++ y) ≡ length x + length y = length-append x y in
    er ∙ ap (λ (k : ℕ). fnv k y) ec ∙ sym (fnv_append q x y)
    ∙ ap (λ (k : ℕ). fnv k (x ++ y)) (eq ∙ ap (λ (k : ℕ). fnv k len) ea)
    ∙ sym (fnv_append (fnv h num) len (x ++ y))
    ∙ sym (fnv_append h num (len ++ (x ++ y)))
    ∙ ap (λ (k : ℕ). fnv h (num ++ (bytes_of 8 k ++ (x ++ y)))) (sym lm)
