-- std's little-endian numbers are those of the law over the width. Assumes nothing.
use Prim.Native.Nat.{ℕ, ◌+◌, ◌*◌}
use mathlib.Core.Path.{◌≡◌}
use mathlib.Core.List.{List}
use native.Mathlib.Omega.{arith}
use lib.ListN.{get_or}
use Rattle.std.specs.Int.{w16, w32, w64, to_le_bytes}
use Rattle.model_frame.specs.Bytes.{le_at, bytes_of}
use Rattle.base_laws.proofs.Little.{le_join, le_one}

-- the lowest byte, and the others
pub le_next : (m n : ℕ) (l : List ℕ) (at next : ℕ) → m ≡ 1 + n → next ≡ at + 1 → le_at m l at ≡ get_or l at 0 + 256 * le_at n l next
le_next m n l at next more on = rw (more, on) (omega (arith, le_join 1 n l at, le_one l at))

pub bytes_of_2 : (n : ℕ) → to_le_bytes w16 n ≡ bytes_of 2 n
unfolding bytes_of
bytes_of_2 n = search arith

pub bytes_of_4 : (n : ℕ) → to_le_bytes w32 n ≡ bytes_of 4 n
unfolding bytes_of
bytes_of_4 n = search arith

pub bytes_of_8 : (n : ℕ) → to_le_bytes w64 n ≡ bytes_of 8 n
unfolding bytes_of
bytes_of_8 n = search arith
