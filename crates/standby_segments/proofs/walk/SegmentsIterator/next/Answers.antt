use Rattle.std.proofs.Common.{◌-◌, length}
use Rattle.standby_segments.proofs.Turns.{part_bytes}
use Rattle.standby_segments.proofs.walk.SegmentsIterator.next.Goals as goal

pub invariant_of-result : goal.invariant_of-result
invariant_of-result c = record { octets = part_bytes c.args.self.now.from (c.in-Some.end - c.args.self.now.from) c.args.self.now.held.bytes.now c.args.self.now.held.octets }

pub invariant_of-result-2 : goal.invariant_of-result-2
invariant_of-result-2 c = record { octets = part_bytes c.args.self.now.from (length c.args.self.now.held.bytes.now - c.args.self.now.from) c.args.self.now.held.bytes.now c.args.self.now.held.octets }
