-- The laws of the parsers at a position of a buffer, once over the width. Assumes nothing.
use mathlib.Core.Path.{◌≡◌}
use mathlib.Core.List.{List, [], ◌∷◌}
use Prim.Native.Nat.{ℕ, suc, ◌+◌, ◌-◌, ◌≤◌, ◌<◌}
use lib.Dec.{leb}
use native.Mathlib.Omega.{arith}
use borrow.Author.Tests.{le-leb, lt-leb}
use mathlib.Core.Bool.{true, false}
use lib.ListN.{length, take, drop, get_or, length-drop, drop_of_length-le}
use lib.Seq.{drop-drop, drop-cons}
use Rattle.model_frame.specs.Bytes.{le, le_at}
use Rattle.model_frame.specs.Frame.{truncated}
use Rattle.model_frame.specs.Parse.{ok, bad, read_bytes, read_num}

pub bytes_short : (n : ℕ) (b : List ℕ) (at : ℕ) {k : ℕ} → k ≡ length b - at → k < n → read_bytes n (drop at b) ≡ bad truncated
unfolding read_bytes
bytes_short n b at e h = rw (length-drop at b, lt-leb n (length b - at) (omega arith))

pub bytes_got : (n : ℕ) (b : List ℕ) (at : ℕ) {k : ℕ} → k ≡ length b - at → n ≤ k → read_bytes n (drop at b) ≡ ok (take n (drop at b)) (drop (at + n) b)
unfolding read_bytes
bytes_got n b at e h = rw (length-drop at b, le-leb n (length b - at) (omega arith), drop-drop n at b)

pub num_short : (n : ℕ) (b : List ℕ) (at : ℕ) {k : ℕ} → k ≡ length b - at → k < n → read_num n (drop at b) ≡ bad truncated
unfolding read_num
num_short n b at e h = rw (bytes_short n b at e h)

pub num_got : (n : ℕ) (b : List ℕ) (at : ℕ) {k : ℕ} → k ≡ length b - at → n ≤ k → read_num n (drop at b) ≡ ok (le_at n b at) (drop (at + n) b)
unfolding read_num
num_got n b at e h = rw (bytes_got n b at e h)

pub num_whole : (n : ℕ) (s : List ℕ) → n ≤ length s → read_num n s ≡ ok (le (take n s)) (drop n s)
unfolding read_num read_bytes
num_whole n s h = rw (le-leb n (length s) h)

-- a test of what is left
pub enough : (n : ℕ) (b : List ℕ) (at : ℕ) {k : ℕ} → k ≡ length b - at → n ≤ k → leb n (length (drop at b)) ≡ true
enough n b at e h = rw (length-drop at b) (le-leb n (length b - at) (omega arith))

pub lacking : (n : ℕ) (b : List ℕ) (at : ℕ) {k : ℕ} → k ≡ length b - at → k < n → leb n (length (drop at b)) ≡ false
lacking n b at e h = rw (length-drop at b) (lt-leb n (length b - at) (omega arith))

-- nothing is left, or something is
pub left_none : (b : List ℕ) (at : ℕ) {k : ℕ} → k ≡ length b - at → k ≡ 0 → drop at b ≡ []
left_none b at e h =
    let over : length b ≤ at = omega arith in
    drop_of_length-le b over

pub left_some : (b : List ℕ) (at : ℕ) {k : ℕ} → k ≡ length b - at → (k ≡ 0 → ⊥) → drop at b ≡ get_or b at 0 ∷ drop (suc at) b
left_some b at e h = drop-cons b at 0 (omega arith)
