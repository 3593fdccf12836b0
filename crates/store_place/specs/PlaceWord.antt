-- The words of a place; 11 to 13 are spare. Assumes nothing.
use Rattle.std.specs.Prelude.{ℕ}

abbrev pub next_out : ℕ
next_out = 0

abbrev pub next_in : ℕ
next_in = 1

-- whether a number is in flight, and that number
abbrev pub has_in_flight : ℕ
has_in_flight = 2

abbrev pub in_flight : ℕ
in_flight = 3

abbrev pub durable : ℕ
durable = 4

-- the lengths of stamp, marks and the key's texts
abbrev pub stamp_length : ℕ
stamp_length = 5

abbrev pub marks_length : ℕ
marks_length = 6

abbrev pub begin_length : ℕ
begin_length = 7

abbrev pub sender_length : ℕ
sender_length = 8

abbrev pub target_length : ℕ
target_length = 9

abbrev pub suffix_length : ℕ
suffix_length = 10

-- the log's, from here on
abbrev pub log : ℕ
log = 14

-- where the log's entries begin
abbrev pub entries : ℕ
entries = 16
