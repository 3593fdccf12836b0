use Rattle.model_text.specs.Version.{latest}
use Rattle.frame.specs.Answers.{frame_of}
use Rattle.standby_control.proofs.Laws.{replied, bound_to, plain_of}
use Rattle.standby_control.proofs.answer.Goals as goal

pub returns-in-Bind-clause-is : goal.returns-in-Bind-clause-is
returns-in-Bind-clause-is c = let a = c.args in let s = a.standing in rw c.in-Bind.is (bound_to s.settings s.counters s.lookup a.areas.now.row.now a.areas.now.words.now a.areas.now.bytes.now c.requires.rules _ _ _ _ c.on_bind.ensures.is)

pub returns-in_default-clause-is : goal.returns-in_default-clause-is
returns-in_default-clause-is c =
    let a = c.args in
    let s = a.standing in
    replied s.settings s.counters s.lookup a.areas.now.row.now a.areas.now.words.now a.areas.now.bytes.now c.requires.rules (frame_of latest a.frame.now a.decoded) (plain_of a.frame.now a.decoded c.in_default.not-Bind c.requires.fit) c.answer_by_counters-outcome.ensures c.clears.ensures c.clear_if.ensures
