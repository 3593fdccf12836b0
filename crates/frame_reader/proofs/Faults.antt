-- A fault that is passed on. Assumes nothing.
use Rattle.std.specs.Prelude.{◌≡◌, Result, Ok, Err, IsErr, IsErrAnd}
use mathlib.Core.Path.{ap}

pub passed_on : {T E : Type 0} (x : Result T E) (e : E) → IsErr x × IsErrAnd x (λ y. y ≡ e) → x ≡ Err e
passed_on (Ok v) e h = absurd h.1
passed_on (Err y) e h = ap Err h.1
