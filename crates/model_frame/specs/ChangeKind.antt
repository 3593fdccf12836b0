-- The byte that a change begins with: document 01's table of changes. Assumes nothing.
use Rattle.std.specs.Prelude.{ℕ}

abbrev pub set_incoming : ℕ
set_incoming = 1

abbrev pub set_incoming_in_flight : ℕ
set_incoming_in_flight = 2

abbrev pub set_in_flight : ℕ
set_in_flight = 3

abbrev pub record_msg : ℕ
record_msg = 4

abbrev pub record_bare : ℕ
record_bare = 5

abbrev pub reset : ℕ
reset = 6

abbrev pub set_created_at : ℕ
set_created_at = 7

abbrev pub set_marks : ℕ
set_marks = 8
