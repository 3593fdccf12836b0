-- The bytes of a place. Assumes nothing.
use Rattle.std.specs.Prelude.{ℕ}

-- the key's texts
abbrev pub begin : ℕ
begin = 0

abbrev pub sender : ℕ
sender = 32

abbrev pub target : ℕ
target = 64

abbrev pub suffix : ℕ
suffix = 96

abbrev pub stamp : ℕ
stamp = 128

abbrev pub marks : ℕ
marks = 160

-- the ring of messages, from here on
abbrev pub ring : ℕ
ring = 224

-- the bytes that each of the key's texts has, the stamp, and the marks
abbrev pub key_text_size : ℕ
key_text_size = 32

abbrev pub stamp_size : ℕ
stamp_size = 32

abbrev pub marks_size : ℕ
marks_size = 64
