-- A list written element by element. Assumes nothing.
use mathlib.Core.Path.{◌≡◌}
use mathlib.Core.List.{List}
use Prim.Native.Nat.{ℕ, ◌+◌, ◌<◌, ◌≤◌}
use native.Mathlib.Nat.{add-suc}
use native.Mathlib.Numerals.{add-one}
use lib.ListN.{length, drop, get_or, set, drop_of_length-le}
use lib.Seq.{drop-cons}
use Rattle.model_frame.specs.Bytes.{write}
use Rattle.base_laws.proofs.Little.{write_none}

pub write_more : (s out : List ℕ) (at i : ℕ) → i < length s → write out (at + i) (drop i s) ≡ write (set out (at + i) (get_or s i 0)) (at + (i + 1)) (drop (i + 1) s)
unfolding write
write_more s out at i h = rw (drop-cons s i 0 h, add-one i, add-suc)

pub write_done : (s out : List ℕ) (k i : ℕ) → length s ≤ i → write out k (drop i s) ≡ out
write_done s out k i h = rw (drop_of_length-le s h) (write_none out k)
