use mathlib.Core.Path.{◌∙◌}
use Rattle.model_frame.specs.Reading.{read_app_record}
use Rattle.frame_fields.specs.Answers.{record_of}
use Rattle.standby_batch.proofs.Runs.{run_none, run_told}
use Rattle.standby_batch.proofs.no_records.Goals as goal

pub returns-then-run-eq0 : goal.returns-then-run-eq0
returns-then-run-eq0 c = run_none read_app_record c.args.frame.now c.args.run c.if-run-eq0.true

pub returns : goal.returns
returns c = c.is_err.ensures.value ∙ run_told read_app_record c.args.frame.now c.args.run (record_of c.args.frame.now) c.if-run-eq0.false c.read_app_record.new.reader c.read_app_record.result c.read_app_record.ensures.read
