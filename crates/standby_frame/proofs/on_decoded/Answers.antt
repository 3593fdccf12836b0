use Rattle.model_text.specs.Version.{latest}
use Rattle.frame.specs.Answers.{frame_of}
use Rattle.standby_frame.proofs.Laws.{batch_intact, other_intact}
use Rattle.standby_frame.proofs.Frames.{fit_of}
use Rattle.standby_frame.proofs.on_decoded.Goals as goal

pub run_due_then_answer-requires-clause-fit : goal.run_due_then_answer-requires-clause-fit
run_due_then_answer-requires-clause-fit c = fit_of c.args.frame.now c.args.decoded c.in_default.not-Batch c.requires.writable

pub returns-in-Batch-clause-is : goal.returns-in-Batch-clause-is
returns-in-Batch-clause-is c = let s = c.args.standing in rw c.in-Batch.is (batch_intact s.settings s.counters s.lookup _ _ _ _ _ _ _ _ _ _ _ _ _ _ c.run_due_then_batch.ensures.is)

pub returns-in_default-clause-is : goal.returns-in_default-clause-is
returns-in_default-clause-is c =
    let a = c.args in
    let s = a.standing in
    other_intact s.settings s.counters s.lookup a.areas.now.row.now (frame_of latest a.frame.now a.decoded) (fit_of a.frame.now a.decoded c.in_default.not-Batch c.requires.writable) _ _ _ _ _ _ c.run_due_then_answer.ensures.is c.run_due_then_answer.ensures.holds
