use Rattle.std.proofs.Common.{rules, refl}
use Rattle.model_frame.specs.Bytes.{write}
use Rattle.base_bytes.proofs.writer.Writer.byte.Goals as goal

pub returns-clause-put : goal.returns-clause-put
unfolding write
returns-clause-put c = record { wrote = record { bytes = refl; past = refl }; long = search rules; same = refl }
