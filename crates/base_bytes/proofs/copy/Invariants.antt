use Rattle.std.proofs.Common.{◌≡◌, ◌+◌, length, drop}
use Rattle.model_frame.specs.Bytes.{write}
use Rattle.base_bytes.proofs.copy.Given as goal

abbrev pub invariant-loop-i : goal.invariant-loop-i
invariant-loop-i l = (length l.out ≡ length l.initial.out) × (write l.out (l.at + l.i) (drop l.i l.s) ≡ write l.initial.out l.at l.s)
