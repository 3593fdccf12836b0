use Rattle.std.proofs.Common.{arith}
use Rattle.base_hex.proofs.Laws.{writes_on, writes_all}
use Rattle.base_hex.proofs.put_hex.Goals as goal

pub loop-i-preserved : goal.loop-i-preserved
loop-i-preserved c = writes_on _ _ _ _ c.loop-i.invariant (omega arith) (omega arith) c.digit_of.ensures c.digit_of-in-loop-i.ensures

pub returns : goal.returns
returns c = writes_all _ _ _ _ c.loop-i.invariant (omega arith) (omega arith)
