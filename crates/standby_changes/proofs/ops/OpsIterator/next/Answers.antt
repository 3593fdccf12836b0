use mathlib.Core.Path.{sym}
use Rattle.model_frame.proofs.Runs.{change_shorter}
use Rattle.model_frame.proofs.SoundChange.{change_sound}
use Rattle.standby_changes.proofs.Told.{told_ok}
use Rattle.standby_changes.proofs.ops.OpsIterator.next.Goals as goal

pub invariant_of-self : goal.invariant_of-self
invariant_of-self c = record { octets = (change_sound _ _ c.args.self.now.octets (sym (rw (told_ok _ _ c.in_ok-op.ensures.value) at c.read_op.ensures.read))).2 }

pub returns-clause-goes : goal.returns-clause-goes
returns-clause-goes c =
    record { on = λ f. (tt, f, (change_shorter _ _ c.args.self.now.octets (sym (rw (told_ok _ _ c.in_ok-op.ensures.value) at c.read_op.ensures.read))).1); keeps = tt; rests = λ _. tt }
