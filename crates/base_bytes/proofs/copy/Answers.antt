use Rattle.std.proofs.Common.{arith, refl, ◌∙◌, ◌+◌}
use mathlib.Core.Path.{sym}
use lib.ListN.{length-set}
use Rattle.base_bytes.proofs.Copies.{write_more, write_done}
use Rattle.base_bytes.proofs.copy.Goals as goal

pub loop-i-preserved : goal.loop-i-preserved
loop-i-preserved c =
    let i = c.loop-i.invariant in
    (length-set _ _ _ ∙ i.0, sym (write_more _ _ _ _ (omega arith)) ∙ i.1)

pub returns : goal.returns
returns c =
    record {
      bytes = sym (write_done c.args.s.now c.loop-i.out (c.args.at + c.loop-i.i) c.loop-i.i (omega arith)) ∙ c.loop-i.invariant.1;
      past = refl;
    }
