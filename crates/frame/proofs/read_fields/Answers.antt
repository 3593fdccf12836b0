use Rattle.std.proofs.Common.{arith}
use borrow.Author.Tests.{ne_eqb}
use Rattle.model_frame.specs.Reading.{read_fields}
use Rattle.frame_reader.proofs.Faults.{passed_on}
use Rattle.frame.proofs.read_fields.Goals as goal

pub returns-in_err-k-clause-read : goal.returns-in_err-k-clause-read
unfolding read_fields
returns-in_err-k-clause-read c = rw (← c.in_err-k.ensures.read, passed_on c.from_residual.result c.in_err-k.field-0.0 c.from_residual.ensures)

pub returns-in-1-clause-read : goal.returns-in-1-clause-read
unfolding read_fields
returns-in-1-clause-read c = rw (← c.in_ok-k.ensures.read, c.in-1.is, ← c.number.ensures.same) (c.read_hello.ensures.read c.args.protocol.version)

pub returns-in-1-clause-stands : goal.returns-in-1-clause-stands
returns-in-1-clause-stands c = rw (← c.number.ensures.same) (c.read_hello.ensures.stands c.args.protocol.version)

pub returns-in-2-clause-read : goal.returns-in-2-clause-read
unfolding read_fields
returns-in-2-clause-read c = rw (← c.in_ok-k.ensures.read, c.in-2.is, ← c.number.ensures.same) (c.read_welcome.ensures.read c.args.protocol.version)

pub returns-in-2-clause-stands : goal.returns-in-2-clause-stands
returns-in-2-clause-stands c = rw (← c.number.ensures.same) (c.read_welcome.ensures.stands c.args.protocol.version)

pub returns-in-3-clause-read : goal.returns-in-3-clause-read
unfolding read_fields
returns-in-3-clause-read c = rw (← c.in_ok-k.ensures.read, c.in-3.is, ← c.number.ensures.same) (c.read_bind.ensures.read c.args.protocol.version)

pub returns-in-3-clause-stands : goal.returns-in-3-clause-stands
returns-in-3-clause-stands c = rw (← c.number.ensures.same) (c.read_bind.ensures.stands c.args.protocol.version)

pub returns-in-4-clause-read : goal.returns-in-4-clause-read
unfolding read_fields
returns-in-4-clause-read c = rw (← c.in_ok-k.ensures.read, c.in-4.is, ← c.number.ensures.same) (c.read_batch.ensures.read)

pub returns-in-4-clause-stands : goal.returns-in-4-clause-stands
returns-in-4-clause-stands c = rw (← c.number.ensures.same) (c.read_batch.ensures.stands)

pub returns-in-5-clause-read : goal.returns-in-5-clause-read
unfolding read_fields
returns-in-5-clause-read c = rw (← c.in_ok-k.ensures.read, c.in-5.is, ← c.number.ensures.same) (c.read_ack.ensures.read c.args.protocol.version)

pub returns-in-5-clause-stands : goal.returns-in-5-clause-stands
returns-in-5-clause-stands c = rw (← c.number.ensures.same) (c.read_ack.ensures.stands c.args.protocol.version)

pub returns-in-6-clause-read : goal.returns-in-6-clause-read
unfolding read_fields
returns-in-6-clause-read c = rw (← c.in_ok-k.ensures.read, c.in-6.is, ← c.number.ensures.same) (c.read_nack.ensures.read c.args.protocol.version)

pub returns-in-6-clause-stands : goal.returns-in-6-clause-stands
returns-in-6-clause-stands c = rw (← c.number.ensures.same) (c.read_nack.ensures.stands c.args.protocol.version)

pub returns-in-7-clause-read : goal.returns-in-7-clause-read
unfolding read_fields
returns-in-7-clause-read c = rw (← c.in_ok-k.ensures.read, c.in-7.is, ← c.number.ensures.same) (c.read_bound.ensures.read c.args.protocol.version)

pub returns-in-7-clause-stands : goal.returns-in-7-clause-stands
returns-in-7-clause-stands c = rw (← c.number.ensures.same) (c.read_bound.ensures.stands c.args.protocol.version)

pub returns-in-8-clause-read : goal.returns-in-8-clause-read
unfolding read_fields
returns-in-8-clause-read c = rw (← c.in_ok-k.ensures.read, c.in-8.is, ← c.number.ensures.same) (c.read_checked.ensures.read c.args.protocol.version)

pub returns-in-8-clause-stands : goal.returns-in-8-clause-stands
returns-in-8-clause-stands c = rw (← c.number.ensures.same) (c.read_checked.ensures.stands c.args.protocol.version)

pub returns-in_default-clause-read : goal.returns-in_default-clause-read
unfolding read_fields
returns-in_default-clause-read c =
    let k = c.in_ok-k.k in
    rw (← c.in_ok-k.ensures.read, ne_eqb k 1 (omega arith), ne_eqb k 2 (omega arith), ne_eqb k 3 (omega arith), ne_eqb k 4 (omega arith), ne_eqb k 5 (omega arith), ne_eqb k 6 (omega arith), ne_eqb k 7 (omega arith), ne_eqb k 8 (omega arith))
