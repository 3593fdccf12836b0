use Rattle.std.proofs.Common.{◌≡◌, ◌-◌}
use Rattle.model_frame.specs.Parse.{many, forget}
use Rattle.frame_reader.specs.Answers.{rest}
use Rattle.frame_op.proofs.skip.Given as goal

abbrev pub invariant-loop : goal.invariant-loop
invariant-loop g l = record {
  left :
      forget (many l.count (g.T.Item.parser l.protocol.version) (rest l.initial.reader)) ≡ forget (many (l.count - l.counter) (g.T.Item.parser l.protocol.version) (rest l.reader));
  same : l.reader.buf.now ≡ l.initial.reader.buf.now;
}
