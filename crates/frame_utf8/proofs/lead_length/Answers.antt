use Rattle.std.proofs.Common.{arith}
use Rattle.frame_utf8.proofs.Bytes.{one_byte, so_many, no_bytes}
use Rattle.frame_utf8.proofs.lead_length.Goals as goal

pub returns-then-n-eq0 : goal.returns-then-n-eq0
returns-then-n-eq0 c = (one_byte c.args.a (omega arith) c.if-n-eq0.true, omega arith)

pub returns-then-begins : goal.returns-then-begins
returns-then-begins c = so_many c.args.a (omega arith) c.if-n-eq0.false c.begins.ensures c.if-begins.true

pub returns : goal.returns
returns c = (no_bytes c.args.a (omega arith) c.if-n-eq0.false c.begins.ensures c.if-begins.false, omega arith)
