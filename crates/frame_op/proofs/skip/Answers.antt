use Rattle.std.proofs.Common.{◌≡◌, ◌+◌, ◌-◌, arith}
use mathlib.Core.Path.{sym, ◌∙◌}
use Rattle.base_laws.proofs.Runs.{run_none, run_more, run_bad}
use Rattle.frame_reader.proofs.Faults.{passed_on}
use Rattle.frame_op.proofs.skip.Goals as goal

pub returns-in_err-read-clause-read : goal.returns-in_err-read-clause-read
returns-in_err-read-clause-read g c =
    rw (passed_on c.from_residual.result c.in_err-read.field-0.0 c.from_residual.ensures) (sym (c.loop.invariant.left ∙ run_bad _ _ (omega arith) (sym c.in_err-read.ensures.read)))

pub loop-preserved : goal.loop-preserved
loop-preserved g c =
    let next : c.args.count - (c.loop.counter + 1) ≡ c.args.count - c.loop.counter - 1 = omega arith in
    record {
      left = rw next (c.loop.invariant.left ∙ run_more _ _ (omega arith) (sym c.in_ok-read.ensures.read));
      same = c.read.ensures.same ∙ c.loop.invariant.same;
    }

pub returns-clause-read : goal.returns-clause-read
returns-clause-read g c = sym (c.loop.invariant.left ∙ run_none _ _ _ (omega arith))
