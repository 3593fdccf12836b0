use Rattle.std.proofs.Common.{arith}
use Rattle.store_log.proofs.Spans.{span_low, span_both}
use Rattle.store_log.proofs.span_of.Goals as goal

pub returns-then-dist-tail : goal.returns-then-dist-tail
returns-then-dist-tail c =
    let a = c.args in
    span_low a.tail a.cap a.dist a.len (omega arith) (omega arith) (omega arith) c.if-dist-tail.true

pub returns : goal.returns
returns c =
    let a = c.args in
    span_both a.tail a.cap a.dist a.len (omega arith) (omega arith) (omega arith) (omega arith) (omega arith)
