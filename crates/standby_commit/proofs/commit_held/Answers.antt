use Rattle.standby_segments.specs.Steps.{all_of}
use Rattle.standby_commit.proofs.Laws.{settled}
use Rattle.standby_commit.proofs.commit_held.Goals as goal

pub returns-clause-is : goal.returns-clause-is
returns-clause-is c = settled _ _ c.args.handle (all_of c.args.held.now) _ _ c.args.store.now.rules _ (rw (c.view.ensures.shape, c.view.ensures.words, c.view.ensures.bytes) at c.next_outgoing-next.ensures) c.apply_held_at.ensures.is c.fits.ensures c.if-not-fits.false c.requires.words_bound c.push.ensures.pends c.push.ensures.writes
