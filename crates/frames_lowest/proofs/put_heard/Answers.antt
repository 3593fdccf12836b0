use Rattle.std.proofs.Common.{arith}
use Rattle.frames_lowest.proofs.Laws.{put_hyphen}
use Rattle.frames_lowest.proofs.put_heard.Goals as goal

pub returns-in-None : goal.returns-in-None
returns-in-None c = rw (c.in-None.is) (put_hyphen c.args.out.now (omega arith))
