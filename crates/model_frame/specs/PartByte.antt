-- The part byte of a Batch. Assumes nothing.
use Rattle.std.specs.Prelude.{ℕ}

abbrev pub commit : ℕ
commit = 0

abbrev pub whole : ℕ
whole = 1

abbrev pub last_whole : ℕ
last_whole = 2
