use Rattle.std.proofs.Common.{rules}
use Rattle.model_frame.specs.Frame.{commit, whole, last_whole}
use Rattle.frame_op.specs.Answers.{held_run}
use Rattle.standby_segments.specs.Segments.{hold_areas}
use Rattle.frame_fields.specs.Answers.{part_of}
use Rattle.standby_batch_handle.specs.Handling.{Sound}
use Rattle.standby_batch_handle.proofs.Laws.{unbound, off_number, by_part}
use Rattle.standby_batch_handle.proofs.on_handle.Goals as goal

pub returns-in_default-clause-is : goal.returns-in_default-clause-is
returns-in_default-clause-is c = rw c.in_default.is (unbound c.args.changes.now.changes.protocol.version c.args.store.now.shape c.args.handle c.args.number.0 (part_of c.args.part) (held_run c.args.changes.now.changes.protocol.version c.args.changes.now.changes.run.now) c.args.store.now.words.now c.args.store.now.bytes.now (hold_areas c.args.area.now c.args.ends.now) c.args.store.now.rules)

pub returns-then-not-is_next-clause-is : goal.returns-then-not-is_next-clause-is
returns-then-not-is_next-clause-is c = rw c.in-Some.is (off_number c.args.changes.now.changes.protocol.version c.args.store.now.shape c.args.handle c.args.number.0 (part_of c.args.part) (held_run c.args.changes.now.changes.protocol.version c.args.changes.now.changes.run.now) c.args.store.now.words.now c.args.store.now.bytes.now (hold_areas c.args.area.now c.args.ends.now) c.in-Some.bound c.args.store.now.rules c.is_next.ensures c.if-not-is_next.true)

pub returns-in-Commit-clause-is : goal.returns-in-Commit-clause-is
returns-in-Commit-clause-is c =
    let sound : Sound c.args.handle c.in-Some.bound c.args.store.now.words.now (hold_areas c.args.area.now c.args.ends.now) = rw c.in-Some.is at c.requires.sound in
    rw (c.in-Some.is, c.in-Commit.is) (by_part c.args.changes.now.changes.protocol.version c.args.store.now.shape c.args.handle c.args.number.0 commit (held_run c.args.changes.now.changes.protocol.version c.args.changes.now.changes.run.now) c.args.store.now.words.now c.args.store.now.bytes.now (hold_areas c.args.area.now c.args.ends.now) c.in-Some.bound c.is_next.ensures c.if-not-is_next.false sound.own c.on_commit.ensures.is)

pub returns-in-Whole-clause-is : goal.returns-in-Whole-clause-is
returns-in-Whole-clause-is c =
    let sound : Sound c.args.handle c.in-Some.bound c.args.store.now.words.now (hold_areas c.args.area.now c.args.ends.now) = rw c.in-Some.is at c.requires.sound in
    rw (c.in-Some.is, c.in-Whole.is) (by_part c.args.changes.now.changes.protocol.version c.args.store.now.shape c.args.handle c.args.number.0 whole (held_run c.args.changes.now.changes.protocol.version c.args.changes.now.changes.run.now) c.args.store.now.words.now c.args.store.now.bytes.now (hold_areas c.args.area.now c.args.ends.now) c.in-Some.bound c.is_next.ensures c.if-not-is_next.false sound.own (search (rules, c.args.store.now.rules)))

pub returns-in-LastWhole-clause-is : goal.returns-in-LastWhole-clause-is
returns-in-LastWhole-clause-is c =
    let sound : Sound c.args.handle c.in-Some.bound c.args.store.now.words.now (hold_areas c.args.area.now c.args.ends.now) = rw c.in-Some.is at c.requires.sound in
    rw (c.in-Some.is, c.in-LastWhole.is) (by_part c.args.changes.now.changes.protocol.version c.args.store.now.shape c.args.handle c.args.number.0 last_whole (held_run c.args.changes.now.changes.protocol.version c.args.changes.now.changes.run.now) c.args.store.now.words.now c.args.store.now.bytes.now (hold_areas c.args.area.now c.args.ends.now) c.in-Some.bound c.is_next.ensures c.if-not-is_next.false sound.own (search rules))
