use Rattle.model_frame.proofs.Le.{are_bytes}
use Rattle.standby_segments.proofs.segments.HeldChanges.new.Goals as goal

pub invariant_of-result : goal.invariant_of-result
invariant_of-result c = record { octets = are_bytes c.args.bytes.now (λ i. (c.type_inv.bytes i).fits) }
