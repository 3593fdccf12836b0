use Rattle.std.proofs.Common.{arith, ◌∙◌}
use Rattle.base_hex.proofs.Laws.{reads_on, reads_off, reads_end}
use Rattle.base_hex.proofs.read_digits.Goals as goal

pub returns-in_err-out : goal.returns-in_err-out
returns-in_err-out c =
    let i = c.loop-i.invariant in
    let s = c.in-Some.ensures.steps in
    rw c.from_residual.ensures (reads_off _ _ _ _ _ i.1 _ _ s.0.1.0 (s.0.1.1 ∙ i.0) c.in_err-out.ensures)

pub loop-i-preserved : goal.loop-i-preserved
loop-i-preserved c =
    let i = c.loop-i.invariant in
    let s = c.in-Some.ensures.steps in
    (s.0.0 ∙ i.0, rw (s.2, s.1) (reads_on _ _ _ _ _ i.1 _ _ s.0.1.0 (s.0.1.1 ∙ i.0) c.requires c.in_ok-out.ensures.0 _ c.in_ok-out.ensures.1))

pub returns : goal.returns
returns c =
    let i = c.loop-i.invariant in
    let s = c.in-None.ensures.steps in
    reads_end _ _ _ _ _ i.1 (omega (arith, i.0, s.0.1.0)) c.requires c.then_some.ensures
