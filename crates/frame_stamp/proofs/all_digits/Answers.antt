use Rattle.frame_stamp.proofs.Digits.{ends}
use Rattle.frame_stamp.proofs.all_digits.Goals as goal

pub returns : goal.returns
returns c = ends c.args.s.now c.loop-byte.ok c.loop-byte.byte-index c.loop-byte.invariant c.loop-byte-test.false
