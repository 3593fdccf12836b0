use Rattle.model_text.specs.Version.{latest}
use Rattle.std.proofs.Common.{◌<◌, arith}
use Rattle.model_frame.specs.Reading.{read_change, read_app_record}
use Rattle.frame_op.specs.Answers.{run_of}
use Rattle.frame_fields.specs.Answers.{part_of}
use Rattle.standby_pending.specs.Pending.{count_of}
use Rattle.standby_state.specs.Lent.{holds_of}
use Rattle.standby_batch_due.proofs.Laws.{batch_at, few_left}
use Rattle.standby_batch_due.proofs.run_due_then_batch.Goals as goal

pub on_batch-requires-clause-words_bound : goal.on_batch-requires-clause-words_bound
on_batch-requires-clause-words_bound c =
    let few : count_of c.run_if.new.words < 64 = few_left c.args.standing.settings.shape c.args.batch.handle c.args.areas.now.words.now c.args.areas.now.bytes.now c.requires.rules c.is_due_batch-due.ensures c.run_if.ensures in
    grind (arith, few)

pub returns-clause-is : goal.returns-clause-is
returns-clause-is c =
    let a = c.args in
    let s = a.standing in
    batch_at s.settings s.counters s.lookup a.batch.handle a.batch.epoch.0 a.batch.commit_no.0 (part_of a.batch.part) (run_of (read_change latest) a.frame.now a.batch.ops) (run_of read_app_record a.frame.now a.batch.app_records) a.areas.now.words.now a.areas.now.bytes.now (holds_of a.areas.now) c.is_due_batch-due.ensures c.run_if.ensures
    _ _ _ _ c.own_part-start.ensures.start c.own_part-start.ensures.end c.own_part-first.ensures.start c.own_part-first.ensures.end c.on_batch.auto.area c.on_batch.auto.ends c.on_batch.ensures
