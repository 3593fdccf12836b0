-- One call of a writer after another. Assumes nothing.
use mathlib.Core.Path.{◌≡◌, ◌∙◌}
use mathlib.Core.List.{List, ◌++◌}
use Prim.Native.Nat.{ℕ}
use Rattle.base_laws.proofs.Writes.{wrote_on}
use Rattle.base_bytes.specs.declared.writer.Writer.{Writer}
use Rattle.base_bytes.specs.Put.{Put}

pub put_on : {w v u : Writer} {xs ys : List ℕ} → Put w xs v → Put v ys u → Put w (xs ++ ys) u
put_on p q = record { wrote = wrote_on p.wrote q.wrote; long = q.long ∙ p.long; same = q.same ∙ p.same }
