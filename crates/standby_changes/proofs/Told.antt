-- A Result of which `ok` gave a value. Assumes nothing.
use mathlib.Core.Path.{◌≡◌}
use Rattle.std.specs.Prelude.{Some, Ok, Err, Result}
use Rattle.std.specs.Result.{result_ok}

pub told_ok : {A E : Type 0} (r : Result A E) (a : A) → Some a ≡ result_ok r → r ≡ Ok a
told_ok (Ok x) a h = cc
told_ok (Err e) a h = cc
