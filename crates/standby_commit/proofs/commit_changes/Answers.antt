use Rattle.frame_op.specs.Answers.{held_run}
use Rattle.standby_commit.proofs.Laws.{settled}
use Rattle.standby_commit.proofs.commit_changes.Goals as goal

pub returns-clause-is : goal.returns-clause-is
returns-clause-is c = settled _ _ c.args.handle (held_run c.args.changes.now.protocol.version c.args.changes.now.run.now) _ _ c.args.store.now.rules _ (rw (c.view.ensures.shape, c.view.ensures.words, c.view.ensures.bytes) at c.next_outgoing-next.ensures) c.apply_at.ensures.is c.fits.ensures c.if-not-fits.false c.requires.words_bound c.push.ensures.pends c.push.ensures.writes
