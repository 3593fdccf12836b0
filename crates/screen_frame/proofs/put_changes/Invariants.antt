use Rattle.model_text.specs.Version.{latest}
use Rattle.std.proofs.Common.{◌-◌}
use Rattle.model_frame.specs.Reading.{read_change}
use Rattle.frame_op.specs.Answers.{run_of}
use Rattle.screen_frame.proofs.Laws.{Listed}
use Rattle.screen_frame.proofs.put_changes.Given as goal

abbrev pub invariant-loop : goal.invariant-loop
invariant-loop l = Listed l.fn.text l.src (run_of (read_change latest) l.src l.fn.run) (l.fn.run.count - l.counter) l.reader l.text
