use mathlib.Core.Path.{ap, ◌∙◌}
use Prim.Native.Nat.{ℕ}
use native.Mathlib.Nat.{sub-zero}
use lib.ListN.{take}
use Rattle.standby_segments.specs.Segments.{held_changes}
use Rattle.standby_part.proofs.held_changes.Goals as goal

pub returns : goal.returns
returns c =
    (λ j. held_changes (c.new.ensures.protocol j).version (c.new.ensures.ends j) (c.new.ensures.bytes j))
    ∙ ap (λ (k : ℕ). held_changes c.args.protocol.version c.args.ends.now (take k c.args.area.now)) (sub-zero c.args.len)
