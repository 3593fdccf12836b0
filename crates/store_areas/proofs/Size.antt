-- What a caller lends at most, in bytes: (S + 1) × (C + 64 × M + 1,024). Assumes nothing.
use Prim.Native.Nat.{◌+◌, ◌*◌, ◌≤◌}
use native.Mathlib.Omega.{arith}
use Rattle.store_areas.specs.declared.Shape.{Shape}
use Rattle.store_areas.specs.Areas.{place_words, place_bytes}

-- with no limit on S, C and M; a word is 8 bytes
pub size_limit : (s : Shape) → 8 * (66 + s.places * place_words s) + s.places * place_bytes s ≤ (s.places + 1) * (s.bytes + 64 * s.messages + 1024)
size_limit s = omega arith
