use Rattle.std.proofs.Common.{arith}
use Rattle.frame_utf8.proofs.Ascii.{one_ascii}
use Rattle.frame_utf8.proofs.ascii_run.Goals as goal

pub returns : goal.returns
returns c = (omega arith, one_ascii c.args.s.now c.args.at (omega arith))
