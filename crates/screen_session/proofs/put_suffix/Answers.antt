use Rattle.std.proofs.Common.{arith}
use Rattle.screen_session.proofs.Laws.{with_suffix, no_suffix}
use Rattle.screen_session.proofs.put_suffix.Goals.{then-suffix-gt0, else-suffix-gt0}
use Rattle.screen_session.proofs.put_suffix.Goals as goal

pub returns : goal.returns
returns c = elim c.if-suffix-gt0.branch [
  | then-suffix-gt0 w ↦ with_suffix c.args.suffix.now (omega (arith, w.if-suffix-gt0.true)) w.flow.ensures (rw (← w.text-is) c.end_line.ensures)
  | else-suffix-gt0 w ↦ no_suffix _ c.args.suffix.now (omega (arith, w.if-suffix-gt0.false)) (rw (← w.text-is) c.end_line.ensures)
]
