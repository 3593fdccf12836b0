-- The byte that a frame's body begins with: document 01's table of frames. Assumes nothing.
use Rattle.std.specs.Prelude.{ℕ}

abbrev pub hello : ℕ
hello = 1

abbrev pub welcome : ℕ
welcome = 2

abbrev pub bind : ℕ
bind = 3

abbrev pub batch : ℕ
batch = 4

abbrev pub ack : ℕ
ack = 5

abbrev pub nack : ℕ
nack = 6

abbrev pub bound : ℕ
bound = 7

abbrev pub checked : ℕ
checked = 8
