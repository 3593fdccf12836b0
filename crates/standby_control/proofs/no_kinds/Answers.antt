use mathlib.Core.Path.{◌∙◌}
use Rattle.model_frame.specs.Parse.{read_num}
use Rattle.standby_batch.proofs.Runs.{run_none, run_told}
use Rattle.standby_control.proofs.no_kinds.Goals as goal

pub returns-then-run-eq0 : goal.returns-then-run-eq0
returns-then-run-eq0 c = run_none (read_num 2) c.args.frame.now c.args.run c.if-run-eq0.true

pub returns : goal.returns
returns c = c.is_err.ensures.value ∙ run_told (read_num 2) c.args.frame.now c.args.run (λ x. x) c.if-run-eq0.false c.number.new.self c.number.result c.number.ensures.read
