-- What the iterator over a run's changes begins with, and what each turn gives. Assumes nothing.
use Rattle.std.specs.Prelude.{◌≡◌, Option, MatchOption}
use Rattle.model_frame.specs.Frame.{Fault}
use Rattle.model_frame.specs.Parse.{ok, bad}
use Rattle.model_frame.specs.Reading.{read_change}
use Rattle.frame_op.specs.Answers.{op_of}
use Rattle.frame_op.specs.declared.Op.{Op}
use Rattle.frame_reader.specs.Answers.{rest}
use Rattle.standby_changes.specs.declared.changes.Changes.{Changes}
use Rattle.standby_changes.specs.declared.changes.Ops.{Ops}

-- it stands before all of the run
pub record IteratesOver (c : Changes) (s : Ops) : Type 0 where
  pub protocol : s.protocol ≡ c.protocol
  pub buf : s.reader.buf.now ≡ c.run.now
  pub whole : rest s.reader ≡ c.run.now

-- nothing where no change can be read, else the next one
abbrev pub StepsOps : Ops → Option Op → Ops → Type 0
StepsOps s r t = (t.protocol ≡ s.protocol) × (t.reader.buf.now ≡ s.reader.buf.now) × MatchOption r ((f : Fault) × (read_change s.protocol.version (rest s.reader) ≡ bad f))
    (λ op. read_change s.protocol.version (rest s.reader) ≡ ok (op_of s.reader.buf.now op) (rest t.reader))
