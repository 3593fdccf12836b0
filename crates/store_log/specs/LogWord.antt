-- The words of one session's log. Assumes nothing.
use Rattle.std.specs.Prelude.{ℕ, ◌+◌, ◌*◌}

-- the slot that the next entry goes to
abbrev pub head : ℕ
head = 0

-- the byte ring's tail
abbrev pub tail : ℕ
tail = 1

-- the number and the length of slot p's entry
abbrev pub number : ℕ → ℕ
number p = 2 + 2 * p

abbrev pub length : ℕ → ℕ
length p = 3 + 2 * p
