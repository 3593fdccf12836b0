-- Changes that a frame can carry, and frames that reading gives back as they were: for the laws of reading and writing. Assumes nothing.
use Rattle.std.specs.Prelude.{ℕ, ◌≡◌, true}
use Rattle.std.proofs.Math.Option.{some}
use Rattle.model_frame.specs.Frame.{Change, Frame, hello, welcome, bind, batch, ack, nack, bound, checked}
use Rattle.model_frame.specs.Writing.{RangedChange, fine_change}

-- its numbers and lengths fit their fields, its text is one
abbrev pub Sendable : ℕ → Change → Type 0
Sendable version c = RangedChange c × (fine_change version c ≡ true)

-- reading gives every frame but one with an in-flight 0 back as it was
abbrev pub NoZeroFlight : Frame → Type 0
NoZeroFlight (hello v e node ks) = Unit {0}
NoZeroFlight (welcome e i) = Unit {0}
NoZeroFlight (bind h e lag k) = Unit {0}
NoZeroFlight (batch h e n p cs rs) = Unit {0}
NoZeroFlight (ack h n) = Unit {0}
NoZeroFlight (nack h r) = Unit {0}
NoZeroFlight (bound h m) = m.in_flight ≡ some 0 → ⊥
NoZeroFlight (checked h e i) = Unit {0}
