use Rattle.std.proofs.Common.{arith, refl}
use borrow.Author.Tests.{ltb-true}
use Rattle.frame_utf8.proofs.Ascii.{starts, gathers, gathered}
use Rattle.frame_utf8.proofs.is_block.Goals as goal

pub loop-j-init : goal.loop-j-init
loop-j-init c = starts 32 c.args.s.now c.args.at

pub loop-j-preserved : goal.loop-j-preserved
loop-j-preserved c = gathers 32 c.args.s.now c.args.at c.loop-j.m c.loop-j.j _ refl c.loop-j.invariant (omega arith)

pub returns : goal.returns
returns c = λ e. gathered 32 c.args.s.now c.args.at c.loop-j.m c.loop-j.j c.loop-j.invariant (omega arith) (ltb-true _ _ e)
