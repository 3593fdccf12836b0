-- One writer after another. Assumes nothing.
use mathlib.Core.Path.{◌≡◌, sym, ap, ◌∙◌}
use mathlib.Core.List.{List, [], ◌++◌}
use Prim.Native.Nat.{ℕ, ◌+◌, ◌≤◌}
use native.Mathlib.Omega.{arith}
use lib.ListN.{length, length-append}
use Rattle.model_frame.specs.Bytes.{write}
use Rattle.base_laws.proofs.Little.{write_append, write_none, length_write}
use Rattle.base_laws.specs.Wrote.{Wrote}

-- the second where the first ended
pub wrote_on : {l xs l₁ ys l₂ : List ℕ} {at k r : ℕ} → Wrote l at xs l₁ k → Wrote l₁ k ys l₂ r → Wrote l at (xs ++ ys) l₂ r
wrote_on {l} {xs} {l₁} {ys} {l₂} {at} w v = record {
  bytes = rw (v.bytes, w.bytes, w.past) (sym (write_append l xs ys at));
  past = omega (arith, w.past, v.past, length-append xs ys);
}

-- What is still to be written, `rest` from `pos` on, makes of the list as it is what `all` from `at` on makes of the first: the invariant of a loop that writes.
pub record Left (first : List ℕ) (at : ℕ) (all out : List ℕ) (pos : ℕ) (rest : List ℕ) : Type 0 where
  pub same : length out ≡ length first
  pub bytes : write out pos rest ≡ write first at all
  pub past : pos + length rest ≡ at + length all

module _ {first all out : List ℕ} {at pos : ℕ} where
  pub left_room : {more : List ℕ} (xs rest : List ℕ) → Left first at all out pos more → more ≡ xs ++ rest → at + length all ≤ length first → pos + length xs ≤ length out
  left_room xs rest w e h = omega (arith, w.same, w.past, ap length e, length-append xs rest)

  pub left_step : {more xs rest out' : List ℕ} {r : ℕ} → Left first at all out pos more → Wrote out pos xs out' r → more ≡ xs ++ rest → Left first at all out' r rest
  left_step {more} {xs} {rest} w v e = record {
    same = rw v.bytes (length_write out pos xs ∙ w.same);
    bytes = rw (v.bytes, v.past, ← write_append, ← e) w.bytes;
    past = omega (arith, w.past, v.past, ap length e, length-append xs rest);
  }

  pub left_done : {more : List ℕ} → Left first at all out pos more → more ≡ [] → Wrote first at all out pos
  left_done w e = record { bytes = sym (ap (write out pos) e ∙ write_none out pos) ∙ w.bytes; past = omega (arith, w.past, ap length e) }
