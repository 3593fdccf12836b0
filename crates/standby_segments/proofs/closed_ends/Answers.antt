use Rattle.std.proofs.Common.{arith}
use mathlib.Core.Path.{sym, ap, ◌∙◌}
use Prim.Native.Nat.{ℕ}
use lib.ListN.{take}
use lib.Seq.{length-take-le}
use Rattle.standby_segments.proofs.Ends.{ends_few, ends_first}
use Rattle.standby_segments.proofs.closed_ends.Goals as goal

pub slice_bounds-result-end : goal.slice_bounds-result-end
slice_bounds-result-end c = sym (length-take-le c.open_segment.result.index c.args.ends.now (omega (arith, c.open_segment.ensures.index, ends_few c.args.ends.now 0 c.args.len)))

pub returns : goal.returns
returns c = ap (λ (k : ℕ). take k c.args.ends.now) c.open_segment.ensures.index ∙ ends_first c.args.ends.now 0 c.args.len
