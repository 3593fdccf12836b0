use mathlib.Core.Path.{sym}
use Rattle.std.proofs.Common.{ℕ}
use lib.ListN.{length-replicate}
use Rattle.vectors_hold.proofs.store_area.Goals as goal

pub returns : goal.returns
returns c = sym (length-replicate {0} {A = ℕ} 300000 0)
