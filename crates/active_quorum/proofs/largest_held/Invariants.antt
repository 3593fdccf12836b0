use Rattle.std.proofs.Common.{◌≡◌, length}
use Rattle.model_quorum.specs.Counts.{largest_of}
use Rattle.active_quorum.proofs.largest_held.Given as goal

abbrev pub invariant-loop-ack : goal.invariant-loop-ack
invariant-loop-ack l = l.largest ≡ largest_of l.ack-index (length l.acks) l.k l.acks
