use Rattle.std.proofs.Common.{◌≤◌, arith}
use borrow.Author.Tests.{leb-true}
use Rattle.frame_utf8.proofs.Ascii.{starts, gathers, gathered}
use Rattle.frame_utf8.proofs.is_ascii.Goals as goal

pub loop-i-init : goal.loop-i-init
loop-i-init c = starts _ c.args.s.now 0

pub loop-i-preserved : goal.loop-i-preserved
loop-i-preserved c = gathers _ c.args.s.now 0 c.loop-i.m c.loop-i.i c.loop-i.i (omega arith) c.loop-i.invariant (omega arith)

pub returns : goal.returns
returns c =
    λ e. let l : c.loop-i.m ≤ 0x7F = leb-true _ _ e in
    gathered _ c.args.s.now 0 c.loop-i.m c.loop-i.i c.loop-i.invariant (omega arith) (omega arith)
