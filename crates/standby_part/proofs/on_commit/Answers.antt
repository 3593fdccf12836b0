use Rattle.frame_op.specs.Answers.{held_run}
use Rattle.standby_segments.specs.Segments.{hold_areas}
use Rattle.standby_part.proofs.Parts.{commit_held, commit_settled}
use Rattle.standby_part.proofs.on_commit.Goals as goal

pub returns-then-not-is_none-clause-is : goal.returns-then-not-is_none-clause-is
returns-then-not-is_none-clause-is c = commit_held c.args.changes.now.protocol.version c.args.store.now.shape c.args.bound c.args.number (held_run c.args.changes.now.protocol.version c.args.changes.now.run.now) _ _ (hold_areas c.args.area.now c.args.ends.now) (rw c.held_changes.ensures at c.is_none.ensures) c.if-not-is_none.true c.args.store.now.rules

pub returns-clause-is : goal.returns-clause-is
returns-clause-is c = commit_settled c.args.changes.now.protocol.version c.args.store.now.shape c.args.bound c.args.number (held_run c.args.changes.now.protocol.version c.args.changes.now.run.now) _ _ (hold_areas c.args.area.now c.args.ends.now) (rw c.held_changes.ensures at c.is_none.ensures) c.if-not-is_none.false c.requires.place_bound c.settle.ensures.is
