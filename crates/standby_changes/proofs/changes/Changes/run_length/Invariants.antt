use Rattle.std.proofs.Common.{◌≡◌, length}
use Rattle.frame_reader.specs.Answers.{rest}
use Rattle.standby_changes.proofs.Loops.{Ending}
use Rattle.standby_changes.proofs.changes.Changes.run_length.Given as goal

abbrev pub invariant-loop-last : goal.invariant-loop-last
invariant-loop-last l = record { ends : Ending l.self.protocol.version l.self.run.now l.left (rest l.reader); same : l.reader.buf.now ≡ l.self.run.now }

abbrev pub decreases-loop-last : goal.decreases-loop-last
decreases-loop-last l = length (rest l.reader)
