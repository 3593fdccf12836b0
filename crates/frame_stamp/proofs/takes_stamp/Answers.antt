use Rattle.std.proofs.Common.{◌∙◌, arith}
use Rattle.frame_stamp.proofs.Versions.{takes_all, takes_short, takes_no_long}
use Rattle.frame_stamp.proofs.takes_stamp.Goals as goal

pub returns-then-protocol-eq-LATEST : goal.returns-then-protocol-eq-LATEST
returns-then-protocol-eq-LATEST c = c.is_stamp.ensures ∙ takes_all c.args.protocol.version c.args.s.now c.if-protocol-eq-LATEST.true

pub returns-then-s-le-LONGEST_SHORT : goal.returns-then-s-le-LONGEST_SHORT
returns-then-s-le-LONGEST_SHORT c = c.is_stamp-then-s-le-LONGEST_SHORT.ensures ∙ takes_short c.args.protocol.version c.args.s.now c.if-protocol-eq-LATEST.false (omega arith)

pub returns-else-s-le-LONGEST_SHORT : goal.returns-else-s-le-LONGEST_SHORT
returns-else-s-le-LONGEST_SHORT c = takes_no_long c.args.protocol.version c.args.s.now c.if-protocol-eq-LATEST.false (omega arith)
