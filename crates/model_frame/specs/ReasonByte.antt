-- The byte of a Nack's reason. Assumes nothing.
use Rattle.std.specs.Prelude.{ℕ}

abbrev pub stale_epoch : ℕ
stale_epoch = 1

abbrev pub diverged : ℕ
diverged = 2

abbrev pub lag_too_great : ℕ
lag_too_great = 3

abbrev pub restarted : ℕ
restarted = 4
