use Rattle.std.proofs.Common.{refl}
use Rattle.standby_segments.proofs.Turns.{op_read, read_bytes, read_less, open_ends, closed_ended, reset_read, next_bytes}
use Rattle.standby_segments.proofs.segment_ops.SegmentOpsIterator.next.Goals as goal

pub invariant_of-self : goal.invariant_of-self
invariant_of-self c = record { octets = read_bytes _ _ c.args.self.now.octets c.in-Ok.ensures.read }

pub returns-in-Ok-clause-steps : goal.returns-in-Ok-clause-steps
returns-in-Ok-clause-steps c = (refl, refl, c.in-Ok.ensures.same, op_read _ _ c.args.self.now.octets c.in-Ok.ensures.read _)

pub returns-in-Ok-clause-goes : goal.returns-in-Ok-clause-goes
returns-in-Ok-clause-goes c = record { on = λ f. (tt, f, read_less _ _ c.args.self.now.octets c.in-Ok.ensures.read); keeps = tt; rests = λ _. tt }

pub returns-then-not-self-clause-steps : goal.returns-then-not-self-clause-steps
returns-then-not-self-clause-steps c = (refl, refl, refl, open_ends _ _ c.args.self.now.octets _ c.if-not-self.true c.in_default.ensures.read)

pub returns-in_err-at-clause-steps : goal.returns-in_err-at-clause-steps
returns-in_err-at-clause-steps c = rw c.from_residual.ensures (refl, refl, refl, closed_ended _ c.args.self.now.reader.buf.now c.args.self.now.reader.at _ c.if-not-self.false c.in_err-at.ensures)

pub invariant_of-self-2 : goal.invariant_of-self-2
invariant_of-self-2 c = record { octets = next_bytes 0 c.args.self.now.reader.buf.now c.args.self.now.reader.at c.args.self.now.octets c.in_ok-at.ensures }

pub returns-clause-steps : goal.returns-clause-steps
returns-clause-steps c = (refl, refl, refl, reset_read _ c.args.self.now.reader.buf.now c.args.self.now.reader.at c.args.self.now.octets _ c.if-not-self.false c.in_default.ensures.read c.in_ok-at.ensures)
