-- A run of ASCII bytes. Assumes nothing.
use mathlib.Core.Path.{◌≡◌, sym, ap, subst, ◌∙◌}
use mathlib.Core.Bool.{true}
use mathlib.Core.List.{List}
use Prim.Native.Nat.{ℕ, zero, suc, ◌+◌, ◌≤◌, ◌<◌}
use native.Mathlib.Omega.{arith}
use borrow.Author.Count.{below_more}
use lib.Bits.{bit_and, bit_or, or_add_and, and_le_l, and_le_r}
use lib.ListN.{length, drop, get_or}
use Rattle.model_text.specs.Utf8.{utf8_from, utf8}
use Rattle.model_text.proofs.Agree.{ascii_first}
use Rattle.frame_utf8.specs.Places.{AsciiRun}
use Rattle.frame_utf8.proofs.Scan.{Scanned, next_one, ends}
use Rattle.frame_utf8.proofs.Scan as scan

-- each of the first j of n bytes is at most m
pub record Gathered (n : ℕ) (s : List ℕ) (at m j : ℕ) : Type 0 where
  pub within : j ≤ n
  pub each : (k : ℕ) → k < j → get_or s (at + k) 0 ≤ m

module _ (n : ℕ) (s : List ℕ) (at : ℕ) where
  pub starts : Gathered n s at 0 0
  starts = record { within = omega arith; each = λ k h. absurd (omega arith) }

  more : (m j : ℕ) → Gathered n s at m j → j < n → Gathered n s at (bit_or m (get_or s (at + j) 0)) (j + 1)
  more m j g h =
      let b : ℕ = get_or s (at + j) 0 in
      let e : bit_or m b + bit_and m b ≡ m + b = or_add_and m b in
      let l : bit_and m b ≤ m = and_le_l m b in
      let r : bit_and m b ≤ b = and_le_r m b in
      record {
        within = omega arith;
        each = below_more (λ (k : ℕ). get_or s (at + k) 0 ≤ bit_or m b) j (λ k q. let o = g.each k q in omega arith) (omega arith);
      }

  pub gathers : (m j i : ℕ) → i ≡ at + j → Gathered n s at m j → j < n → Gathered n s at (bit_or m (get_or s i 0)) (j + 1)
  gathers m j i at_j g h = subst (λ (x : ℕ). Gathered n s at (bit_or m (get_or s x 0)) (j + 1)) (sym at_j) (more m j g h)

  pub gathered : (m j : ℕ) → Gathered n s at m j → n ≤ j → m < 0x80 → AsciiRun s at n
  gathered m j g h l k q = let o = g.each k (omega arith) in omega arith

-- one ASCII byte is a run
pub one_ascii : (s : List ℕ) (at : ℕ) → get_or s at 0 < 0x80 → AsciiRun s at 1
one_ascii s at h k q =
    let e : at ≡ at + k = omega arith in
    let l : get_or s at 0 ≤ 0x7F = omega arith in
    subst (λ (x : ℕ). get_or s x 0 ≤ 0x7F) e l

-- the walk passes a run
pub passes : (n : ℕ) (s : List ℕ) (i : ℕ) → i + n ≤ length s → AsciiRun s i n → Scanned s i → Scanned s (i + n)
passes zero s i h a r = subst (Scanned s) (let e : i ≡ i + 0 = omega arith in e) r
passes (suc n) s i h a r =
    let p : Scanned s (i + n) = passes n s i (omega arith) (λ k q. a k (omega arith)) r in
    let e : i + n + 1 ≡ i + suc n = omega arith in
    subst (Scanned s) e
    (record {
      within = omega arith;
      so = p.so ∙ ap (utf8_from 0) (next_one s (i + n) (omega arith)) ∙ ascii_first (get_or s (i + n) 0) (drop (i + n + 1) s) (a n (omega arith));
    })

-- a text that is all ASCII is UTF-8
pub ascii_utf8 : (s : List ℕ) → AsciiRun s 0 (length s) → true ≡ utf8 s
ascii_utf8 s a = ends s (0 + length s) (passes (length s) s 0 (omega arith) a (scan.starts s)) (omega arith)
