-- The versions of the protocol. Assumes nothing.
use Rattle.std.specs.Prelude.{Bool, ◌||◌, ℕ, eqb}

-- what an instance speaks until a Hello is accepted
abbrev pub first : ℕ
first = 1

-- it takes every stamp that the store keeps
abbrev pub latest : ℕ
latest = 2

-- there are no others
unfoldable pub is_version : ℕ → Bool
is_version version = eqb version first || eqb version latest
