use Rattle.active_messages.proofs.Counting.{begins, goes_on, ends_count}
use Rattle.active_messages.proofs.batches.Goals as goal

pub loop-cut-init : goal.loop-cut-init
loop-cut-init c = begins _ _ _ _ _ _ _ _ _ _ _ _ _ _ c.position_from.ensures c.measure-cut.ensures

pub loop-cut-preserved : goal.loop-cut-preserved
loop-cut-preserved c = goes_on _ _ _ _ _ _ _ _ _ _ _ _ _ _ _ c.loop-cut.invariant c.loop-cut-test.true c.measure-cut-in-loop-cut.ensures

pub returns-clause-is : goal.returns-clause-is
returns-clause-is c = (ends_count _ _ _ _ _ _ _ _ _ c.loop-cut.invariant c.loop-cut-test.false c.requires.bytes_len_bound).0
