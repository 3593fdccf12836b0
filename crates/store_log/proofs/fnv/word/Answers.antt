use Rattle.std.proofs.Common.{refl}
use Rattle.store_log.proofs.Hash.{word_next, word_ends}
use Rattle.store_log.proofs.fnv.word.Goals as goal

pub loop-rest-preserved : goal.loop-rest-preserved
loop-rest-preserved c = word_next _ _ _ _ _ c.loop-rest.invariant c.loop-rest-test.true c.step-carried.ensures

pub returns : goal.returns
returns c = word_ends _ _ _ _ _ c.loop-rest.invariant c.loop-rest-test.false refl
