-- Little-endian numbers there and back, once over the width. Assumes nothing.
use mathlib.Core.Path.{◌≡◌, refl, sym, ap}
use mathlib.Core.Bool.{Bool, true, false, ◌&&◌}
use mathlib.Core.List.{List, [], ◌∷◌, ◌++◌}
use Prim.Native.Nat.{ℕ, zero, suc, ◌+◌, ◌*◌, ◌/◌, ◌%◌, ◌^◌, ◌<◌}
use native.Mathlib.Nat.{pow-suc, pow-succ', mod-one}
use native.Mathlib.Omega.{arith}
use borrow.Author.Tests.{ltb-true, lt-ltb}
use lib.Arith.{mod-mul, digits_div, digits_mod}
use lib.Dec.{T, ltb}
use lib.ListN.{length, take, drop, get_or}
use Rattle.model_frame.specs.Bytes.{is_bytes, le, bytes_of}
use Rattle.model_frame.specs.Parse.{Each}

pow256_pos : (m : ℕ) → 0 < 256 ^ m
pow256_pos zero = omega arith
pow256_pos (suc m) = rw pow-suc (omega (arith, pow256_pos m))

-- the lowest byte and the rest of v, cut to m + 1 bytes
cut : (m v : ℕ) → v % 256 ^ suc m ≡ (v / 256 % 256 ^ m) * 256 + v % 256
cut m v = rw pow-suc (mod-mul v (pow256_pos m) (omega arith))

pub length_bytes : (n v : ℕ) → length (bytes_of n v) ≡ n
unfolding bytes_of
length_bytes zero v = refl
length_bytes (suc n) v = ap suc (length_bytes n (v / 256))

pub le_bytes : (n v : ℕ) → le (bytes_of n v) ≡ v % 256 ^ n
unfolding le bytes_of
le_bytes zero v = sym (mod-one v)
le_bytes (suc n) v = rw (cut n v) (omega (arith, le_bytes n (v / 256)))

-- ---- lists of bytes

-- each number is a byte, as a fact of each
abbrev pub Byte : ℕ → Type 0
Byte b = b < 256

pub bytes_each : (s : List ℕ) → T (is_bytes s) → Each Byte s
bytes_each [] h = tt
bytes_each (b ∷ s) h =
    let t : (ltb b 256 ≡ true) × (is_bytes s ≡ true) = both (ltb b 256) (is_bytes s) h in
    (ltb-true b 256 t.0, bytes_each s (rw t.1 tt))
  where
    both : (a c : Bool) → T (a && c) → (a ≡ true) × (c ≡ true)
    both true true h = (refl, refl)
    both true false h = absurd h
    both false c h = absurd h

pub each_bytes : (s : List ℕ) → Each Byte s → T (is_bytes s)
each_bytes [] h = tt
each_bytes (b ∷ s) h = rw (lt-ltb b 256 h.0) (each_bytes s h.1)

-- a slice's elements, as its rule gives them
pub are_bytes : (s : List ℕ) → ((i : ℕ) → get_or s i 0 < 256) → T (is_bytes s)
are_bytes s h = each_bytes s (go s h)
  where
    go : (s : List ℕ) → ((i : ℕ) → get_or s i 0 < 256) → Each Byte s
    go [] h = tt
    go (b ∷ s) h = (h 0, go s (λ i. h (suc i)))

pub each_take : (n : ℕ) (s : List ℕ) → Each Byte s → Each Byte (take n s)
each_take zero s h = tt
each_take (suc n) [] h = tt
each_take (suc n) (x ∷ xs) h = (h.0, each_take n xs h.1)

pub each_drop : (n : ℕ) (s : List ℕ) → Each Byte s → Each Byte (drop n s)
each_drop zero s h = h
each_drop (suc n) [] h = tt
each_drop (suc n) (x ∷ xs) h = each_drop n xs h.1

-- bytes are those of their value, which fits as many
pub bytes_le : (bs : List ℕ) → Each Byte bs → bytes_of (length bs) (le bs) ≡ bs
unfolding bytes_of le
bytes_le [] h = refl
bytes_le (x ∷ xs) h =
    let q : x + 256 * le xs ≡ le xs * 256 + x = omega arith in
    rw (q, digits_mod (le xs) h.0, digits_div (le xs) h.0, bytes_le xs h.1)

pub le_below : (bs : List ℕ) → Each Byte bs → le bs < 256 ^ length bs
unfolding le
le_below [] h = omega arith
le_below (x ∷ xs) h = rw pow-succ' (omega (arith, le_below xs h.1, h.0))

-- ---- lists of bytes that are put together and cut

each_append : (s t : List ℕ) → Each Byte s → Each Byte t → Each Byte (s ++ t)
each_append [] t h k = k
each_append (x ∷ s) t h k = (h.0, each_append s t h.1 k)

pub bytes_append : (s t : List ℕ) → T (is_bytes s) → T (is_bytes t) → T (is_bytes (s ++ t))
bytes_append s t h k = each_bytes (s ++ t) (each_append s t (bytes_each s h) (bytes_each t k))

pub bytes_take : (n : ℕ) (s : List ℕ) → T (is_bytes s) → T (is_bytes (take n s))
bytes_take n s h = each_bytes (take n s) (each_take n s (bytes_each s h))

pub bytes_drop : (n : ℕ) (s : List ℕ) → T (is_bytes s) → T (is_bytes (drop n s))
bytes_drop n s h = each_bytes (drop n s) (each_drop n s (bytes_each s h))

each_number : (n v : ℕ) → Each Byte (bytes_of n v)
unfolding bytes_of
each_number zero v = tt
each_number (suc n) v = (omega arith, each_number n (v / 256))

pub bytes_number : (n v : ℕ) → T (is_bytes (bytes_of n v))
bytes_number n v = each_bytes (bytes_of n v) (each_number n v)
