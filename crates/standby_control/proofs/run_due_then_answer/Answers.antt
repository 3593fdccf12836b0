use Rattle.model_text.specs.Version.{latest}
use Rattle.frame.specs.Answers.{frame_of}
use Rattle.standby_control.proofs.Laws.{other_in}
use Rattle.standby_control.proofs.run_due_then_answer.Goals as goal

pub returns-clause-is : goal.returns-clause-is
returns-clause-is c =
    let a = c.args in
    let s = a.standing in
    other_in s.settings s.counters s.lookup a.areas.now.row.now (frame_of latest a.frame.now a.decoded) a.areas.now.words.now a.areas.now.bytes.now c.is_pending-due.ensures c.run_if.ensures c.answer.ensures.is
