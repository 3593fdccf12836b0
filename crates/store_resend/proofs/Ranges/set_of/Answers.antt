use Rattle.std.proofs.Common.{arith}
use Rattle.store_resend.proofs.Laws.{small, gathered}
use Rattle.store_resend.proofs.Ranges.set_of.Goals as goal

pub with_bit-set-requires : goal.with_bit-set-requires
with_bit-set-requires c = small _ _ _ c.loop-j.set c.loop-j.until c.loop-j.j c.args.self.now.few c.loop-j-test.true c.loop-j.invariant

pub returns : goal.returns
returns c = gathered _ _ _ c.loop-j.set c.loop-j.until c.loop-j.j (omega arith) c.loop-j-test.false c.loop-j.invariant
