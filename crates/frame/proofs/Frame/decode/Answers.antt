use borrow.Author.Tests.{lt-ltb, le-ltb}
use Rattle.model_frame.specs.Reading.{decode}
use Rattle.frame_reader.proofs.Faults.{passed_on}
use Rattle.frame.proofs.Laws.{body_within, stands}
use Rattle.frame.proofs.Frame.decode.Goals as goal

pub returns-then-buf-lt4-clause-result_value : goal.returns-then-buf-lt4-clause-result_value
unfolding decode
returns-then-buf-lt4-clause-result_value c = rw (lt-ltb _ _ c.if-buf-lt4.true)

pub returns-then-n-gt-MAX_FRAME_BYTES-clause-result_value : goal.returns-then-n-gt-MAX_FRAME_BYTES-clause-result_value
unfolding decode
returns-then-n-gt-MAX_FRAME_BYTES-clause-result_value c = rw (le-ltb _ _ c.if-buf-lt4.false, ← c.read_at-n.ensures, lt-ltb _ _ c.if-n-gt-MAX_FRAME_BYTES.true)

pub returns-then-buf-len-clause-result_value : goal.returns-then-buf-len-clause-result_value
unfolding decode
returns-then-buf-len-clause-result_value c = rw (le-ltb _ _ c.if-buf-lt4.false, ← c.read_at-n.ensures, le-ltb _ _ c.if-n-gt-MAX_FRAME_BYTES.false, lt-ltb _ _ c.if-buf-len.true)

pub returns-in_err-frame-clause-result_value : goal.returns-in_err-frame-clause-result_value
unfolding decode
returns-in_err-frame-clause-result_value c = rw (passed_on c.from_residual.result c.in_err-frame.field-0.0 c.from_residual.ensures, le-ltb _ _ c.if-buf-lt4.false, ← c.read_at-n.ensures, le-ltb _ _ c.if-n-gt-MAX_FRAME_BYTES.false, le-ltb _ _ c.if-buf-len.false, ← (body_within c.args.protocol.version c.args.buf.now c.read_at-n.result c.bytes_at.ensures), ← c.in_err-frame.ensures.read)

pub returns-clause-result_value : goal.returns-clause-result_value
unfolding decode
returns-clause-result_value c = rw (le-ltb _ _ c.if-buf-lt4.false, ← c.read_at-n.ensures, le-ltb _ _ c.if-n-gt-MAX_FRAME_BYTES.false, le-ltb _ _ c.if-buf-len.false, ← (body_within c.args.protocol.version c.args.buf.now c.read_at-n.result c.bytes_at.ensures), ← c.in_ok-frame.ensures.read, c.bytes_at.ensures)

pub returns-clause-stands_in : goal.returns-clause-stands_in
returns-clause-stands_in c = stands _ _ _ _ (rw c.bytes_at.ensures at c.in_ok-frame.ensures.stands)
