-- The test `flag != 0` and its other way, as what the flag says. Assumes nothing.
use mathlib.Core.Path.{◌≡◌, refl, ap}
use mathlib.Core.Bool.{Bool, true, false, not}
use Prim.Native.Nat.{ℕ}
use borrow.Author.Tests.{eq-eqb, ne_eqb}
use Rattle.base_flags.specs.Flag.{is_set, byte}

pub set_so : (f : ℕ) → (f ≡ 0 → ⊥) → is_set f ≡ true
set_so f n = ap not (ne_eqb f 0 n)

pub clear_so : (f : ℕ) → f ≡ 0 → is_set f ≡ false
clear_so f e = ap not (eq-eqb f 0 e)

-- a flag that is written
pub written_so : (b : Bool) → is_set (byte b) ≡ b
written_so true = refl
written_so false = refl
