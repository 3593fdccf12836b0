use Rattle.std.proofs.Common.{arith}
use Rattle.frame_utf8.proofs.Ascii.{passes, ascii_utf8}
use Rattle.frame_utf8.proofs.Scan.{starts, stops, goes_on}
use Rattle.frame_utf8.proofs.is_utf8.Goals as goal

pub returns-then-is_ascii : goal.returns-then-is_ascii
returns-then-is_ascii c = ascii_utf8 _ (c.is_ascii.ensures c.if-is_ascii.true)

pub loop-i-init : goal.loop-i-init
loop-i-init c = starts c.args.s.now

pub loop-i-preserved-then-passed-gt0 : goal.loop-i-preserved-then-passed-gt0
loop-i-preserved-then-passed-gt0 c =
    let r = c.ascii_run-passed.ensures in
    passes c.ascii_run-passed.result c.args.s.now c.loop-i.i r.0 r.1 c.loop-i.invariant

pub returns-then-formed-eq0 : goal.returns-then-formed-eq0
returns-then-formed-eq0 c = stops c.args.s.now c.loop-i.i c.lead_length.result c.loop-i.invariant (omega arith) c.lead_length.ensures.0 c.formed_length-formed.result c.formed_length-formed.ensures (omega arith)

pub loop-i-preserved : goal.loop-i-preserved
loop-i-preserved c = (goes_on c.args.s.now c.loop-i.i c.lead_length.result c.loop-i.invariant (omega arith) c.lead_length.ensures.0 c.formed_length-formed.result c.formed_length-formed.ensures c.if-formed-eq0.false).1
