-- The first stored number is the lowest, 0 exactly where none is stored; what a recording leaves. Assumes nothing.
use mathlib.Core.Path.{◌≡◌, refl, sym, ap, ◌∙◌}
use mathlib.Core.Bool.{Bool, true, false, cond}
use mathlib.Core.List.{List, [], ◌∷◌, ◌++◌}
use Prim.Native.Nat.{ℕ, suc, ◌≤◌, ◌<◌}
use native.Mathlib.Omega.{arith}
use Rattle.model_session.specs.Session.{Msg, Rising}
use Rattle.model_session.specs.Summary.{numbered_from}
use Rattle.model_lowest.specs.Lowest.{lowest_of}

-- every number is at least n
abbrev pub AllFrom : ℕ → List Msg → Type 0
AllFrom n [] = Unit {0}
AllFrom n (m ∷ ms) = (n ≤ m.num) × AllFrom n ms

from_low : (n low next : ℕ) (ms : List Msg) → n ≤ low → Rising low next ms → AllFrom n ms
from_low n low next [] h r = tt
from_low n low next (m ∷ ms) h r = (omega (arith, h, r.0), from_low n (suc m.num) next ms (omega (arith, h, r.0)) r.3)

-- no stored number is lower
pub lowest_least : (low next : ℕ) (ms : List Msg) → Rising low next ms → AllFrom (lowest_of ms) ms
lowest_least low next [] r = tt
lowest_least low next (m ∷ ms) r = (omega arith, from_low m.num (suc m.num) next ms (omega arith) r.3)

-- stored numbers are from 1: 0 says that none is stored, and nothing else
pub lowest_none : (next : ℕ) (ms : List Msg) → Rising 1 next ms → lowest_of ms ≡ 0 → ms ≡ []
lowest_none next [] r e = refl
lowest_none next (m ∷ ms) r e = absurd (no r.0 e)
  where
    no : {n : ℕ} → 1 ≤ n → n ≡ 0 → ⊥
    no h z = omega (arith, h, z)
