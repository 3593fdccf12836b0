-- What a writer leaves, and what stands in a buffer. Assumes nothing.
use Rattle.std.specs.Prelude.{ℕ, ◌+◌, ◌≡◌, List, length, take, drop}
use Rattle.model_frame.specs.Bytes.{write}

-- the bytes from a position on, and the next position
pub record Wrote (before : List ℕ) (at : ℕ) (bs : List ℕ) (after : List ℕ) (next : ℕ) : Type 0 where
  pub bytes : after ≡ write before at bs
  pub past : next ≡ at + length bs

-- the n bytes at a position are these
pub record StandsAt (b : List ℕ) (at n : ℕ) (bs : List ℕ) : Type 0 where
  pub same : take n (drop at b) ≡ bs
  pub size : n ≡ length bs
