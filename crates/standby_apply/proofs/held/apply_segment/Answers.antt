use mathlib.Core.Path.{sym, ap, ◌∙◌}
use mathlib.Core.List.{List, [], ◌∷◌}
use Prim.Native.Nat.{ℕ}
use Rattle.model_frame.specs.Writing.{fine_change}
use Rattle.model_standby.specs.Store.{on_stored, changed}
use Rattle.store_place.specs.Place.{place_in}
use Rattle.frame_op.specs.Answers.{op_of}
use Rattle.frame_reader.specs.Answers.{rest}
use Rattle.standby_segments.proofs.Turns.{segment_taken}
use Rattle.standby_apply.proofs.HeldLoop.{first_taken, made_on}
use Rattle.standby_apply.proofs.held.apply_segment.Goals as goal

pub apply-requires-clause-op_value : goal.apply-requires-clause-op_value
apply-requires-clause-op_value c =
    let i = c.loop-op.invariant in
    let s = c.loop-op.op-iterator in
    (λ j. fine_change ((c.new-changes.ensures.protocol ∙ sym i.2) j).version (op_of ((c.new-changes.ensures.run ∙ sym i.3) j) c.in-Some.op))
    ∙ (first_taken s.protocol.version c.args.max (op_of s.reader.buf.now c.in-Some.op) (segment_taken s.protocol.version s.closed (rest s.reader) s.octets) c.in-Some.ensures.steps.3).0

pub loop-op-preserved : goal.loop-op-preserved
loop-op-preserved c =
    let i = c.loop-op.invariant in
    let s = c.loop-op.op-iterator in
    let t = c.in-Some.ensures.steps in (
      tt,
      tt,
      t.0 ∙ i.2,
      t.2 ∙ i.3,
      made_on c.args.segment.now.protocol.version c.args.max (op_of s.reader.buf.now c.in-Some.op ∷ []) _ i.4 t.3 c.apply.auto.words c.apply.auto.bytes c.requires.in_bounds
          (λ C e.
          c.apply.ensures C e
          ∙ ap (λ (b : List ℕ). on_stored (changed C c.args.max (op_of b c.in-Some.op ∷ [])) (place_in C c.args.max c.loop-op.words c.loop-op.bytes)) (c.new-changes.ensures.run ∙ sym i.3)),
    )
