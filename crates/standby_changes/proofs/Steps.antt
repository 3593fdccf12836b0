-- What the first change of a run tells. Assumes nothing.
use mathlib.Core.Path.{◌≡◌, refl, sym, ap, ◌∙◌}
use Rattle.std.specs.Prelude.{Option, Some, None, is_some}
use Rattle.std.specs.Option.{option_eq}
use mathlib.Core.Bool.{Bool, true, false, not, true≢false}
use mathlib.Core.List.{List, ◌∷◌}
use Prim.Native.Nat.{ℕ}
use Rattle.model_frame.specs.Frame.{Change}
use Rattle.model_frame.specs.Parse.{Res, is_empty}
use Rattle.model_frame.specs.Reading.{read_change}
use Rattle.model_standby.specs.Standby.{starts_with_reset}
use Rattle.frame_reader.specs.Answers.{rest}
use Rattle.frame_op.specs.Answers.{op_of, held_run}
use Rattle.frame_op.specs.declared.Op.{Op}
use Rattle.frame_op.specs.contracts.OpPartialEq.TheImpl as op_eq
use Rattle.standby_changes.specs.declared.changes.Changes.{Changes}
use Rattle.standby_changes.specs.declared.changes.Ops.{Ops}
use Rattle.standby_changes.specs.Steps.{IteratesOver, StepsOps}
use Rattle.standby_changes.proofs.Held.{held_bad, held_more}

abbrev same : Op → Op → Bool
same = (op_eq.eq-value).it

reset_same : (b : List ℕ) (cs : List Change) (op : Op) → same op Op.Reset ≡ starts_with_reset (op_of b op ∷ cs)
reset_same b cs (Op.SetNextIncoming n) = refl
reset_same b cs (Op.SetNextIncomingInFlight n f) = refl
reset_same b cs (Op.SetInFlight f) = refl
reset_same b cs (Op.Record n m) = refl
reset_same b cs (Op.RecordNone n) = refl
reset_same b cs Op.Reset = refl
reset_same b cs (Op.SetCreatedAt t) = refl
reset_same b cs (Op.SetMarks m) = refl

-- what the first turn reads is read of the run
begun : (c : Changes) (s : Ops) → IteratesOver c s → {r : Res Change} → read_change s.protocol.version (rest s.reader) ≡ r → read_change c.protocol.version c.run.now ≡ r
begun c s w {r} e = (λ j. read_change (sym w.protocol j).version (sym w.whole j)) ∙ e

other : (r t : Bool) → not r ≡ not t → r ≡ t
other true true e = refl
other true false e = absurd (true≢false (sym e))
other false true e = absurd (true≢false e)
other false false e = refl

-- what the first turn tells of a run: whether it has a change, and whether that is a Reset
module _ (c : Changes) (s t : Ops) (w : IteratesOver c s) where
  abbrev run : List Change
  run = held_run c.protocol.version c.run.now

  pub none_told : {r : Bool} (o : Option Op) → not r ≡ is_some o → StepsOps s o t → r ≡ is_empty run
  none_told {r} (Some op) e g = other r false e ∙ sym (ap is_empty (held_more c.protocol.version c.run.now c.octets (begun c s w g.2)))
  none_told {r} None e g = other r true e ∙ sym (ap is_empty (held_bad c.protocol.version c.run.now (begun c s w g.2.1)))

  pub reset_told : (o : Option Op) → StepsOps s o t → option_eq same o (Some Op.Reset) ≡ starts_with_reset run
  reset_told (Some op) g = reset_same s.reader.buf.now (held_run c.protocol.version (rest t.reader)) op ∙ sym (ap starts_with_reset (held_more c.protocol.version c.run.now c.octets (begun c s w g.2)))
  reset_told None g = sym (ap starts_with_reset (held_bad c.protocol.version c.run.now (begun c s w g.2.1)))
