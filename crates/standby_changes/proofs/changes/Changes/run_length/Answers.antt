use Rattle.std.proofs.Common.{refl}
use mathlib.Core.Path.{sym, ◌∙◌}
use lib.ListN.{length-drop}
use Rattle.standby_changes.proofs.Loops.{ending, end_past, end_less, end_bad}
use Rattle.standby_changes.proofs.changes.Changes.run_length.Goals as goal

pub loop-last-init : goal.loop-last-init
loop-last-init c = record { ends = ending _ c.args.self.now.run.now c.args.self.now.octets; same = refl }

pub loop-last-smaller : goal.loop-last-smaller
loop-last-smaller c = end_less _ c.loop-last.invariant.ends (sym c.in-Ok.ensures.past)

pub loop-last-preserved : goal.loop-last-preserved
loop-last-preserved c = record {
  ends = end_past _ c.loop-last.invariant.ends (sym c.in-Ok.ensures.past) (c.left-left.ensures ∙ sym (length-drop _ _));
  same = c.skip_change.ensures.same ∙ c.loop-last.invariant.same;
}

pub returns : goal.returns
returns c = end_bad _ c.loop-last.invariant.ends (sym c.in_default.ensures.past)
