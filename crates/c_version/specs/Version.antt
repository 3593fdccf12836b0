-- The version of the boundary for C and Rust: its records, functions and codes. Assumes nothing.
use Rattle.std.specs.Prelude.{ℕ, ◌+◌, ◌*◌}

abbrev pub major : ℕ
major = 1

abbrev pub minor : ℕ
minor = 0

-- both as one number
abbrev pub version : ℕ
version = major * 65536 + minor
