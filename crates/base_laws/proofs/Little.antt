-- The laws of little-endian numbers, once over the width: what a number of m + n bytes is by its low m bytes and its high n; and of writing. Assumes nothing.
use mathlib.Core.Path.{◌≡◌, refl}
use mathlib.Core.List.{List, [], ◌∷◌, ◌++◌}
use Prim.Native.Nat.{ℕ, zero, suc, ◌+◌, ◌*◌, ◌^◌, ◌<◌, ◌≤◌}
use native.Mathlib.Nat.{zero-add, suc-add, add-suc, add-zero, pow-succ', mul_assoc, mod-eq_of_lt}
use native.Mathlib.Omega.{arith}
use lib.ListN.{length, take, drop, get_or, set}
use lib.Seq.{sets, sets-eq, length-sets, take-nil, drop-nil, drop-drop}
use Rattle.model_frame.specs.Bytes.{le, le_at, bytes_of, write}

-- reading
le_take : (m n : ℕ) (l : List ℕ) → le (take (m + n) l) ≡ le (take m l) + 256 ^ m * le (take n (drop m l))
unfolding le
le_take zero n l = rw zero-add (omega arith)
le_take (suc m) n [] = rw (suc-add, take-nil n) (omega arith)
le_take (suc m) n (x ∷ xs) = rw (suc-add, pow-succ', mul_assoc) (omega (arith, le_take m n xs))

pub le_join : (m n : ℕ) (l : List ℕ) (at : ℕ) → le_at (m + n) l at ≡ le_at m l at + 256 ^ m * le_at n l (at + m)
le_join m n l at = rw (← drop-drop m at l) (le_take m n (drop at l))

pub le_one : (l : List ℕ) (at : ℕ) → le_at 1 l at ≡ get_or l at 0
unfolding le
le_one [] at = rw drop-nil
le_one (x ∷ xs) zero = omega arith
le_one (x ∷ xs) (suc at) = le_one xs at

-- writing
sets_append : (xs ys l : List ℕ) (i : ℕ) → sets l i (xs ++ ys) ≡ sets (sets l i xs) (i + length xs) ys
sets_append [] ys l i = rw add-zero
sets_append (x ∷ xs) ys l i = rw (add-suc, ← suc-add) (sets_append xs ys (set l i x) (suc i))

pub write_append : (l xs ys : List ℕ) (i : ℕ) → write l i (xs ++ ys) ≡ write (write l i xs) (i + length xs) ys
unfolding write
write_append l xs ys i = sets_append xs ys l i

pub write_none : (l : List ℕ) (i : ℕ) → write l i [] ≡ l
unfolding write
write_none l i = refl

pub length_write : (l : List ℕ) (i : ℕ) (bs : List ℕ) → length (write l i bs) ≡ length l
unfolding write
length_write l i bs = length-sets l i bs

-- what `write` says, where the bytes fit
pub write_is : (l : List ℕ) (i : ℕ) (bs : List ℕ) → i + length bs ≤ length l → write l i bs ≡ take i l ++ bs ++ drop (i + length bs) l
unfolding write
write_is l i bs h = sets-eq bs l i h

pub put_one : (l : List ℕ) (at v : ℕ) → v < 256 → write l at (bytes_of 1 v) ≡ set l at v
unfolding bytes_of write
put_one l at v h = rw (mod-eq_of_lt h)
