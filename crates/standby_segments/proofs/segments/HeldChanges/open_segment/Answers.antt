use Rattle.std.proofs.Common.{arith, length}
use Rattle.standby_segments.proofs.Ends.{open_within}
use Rattle.standby_segments.proofs.segments.HeldChanges.open_segment.Goals as goal

pub returns-clause-within : goal.returns-clause-within
returns-clause-within c = omega (arith, c.open_segment.ensures.from, open_within c.args.self.now.ends.now 0 (length c.args.self.now.bytes.now) (omega arith))
