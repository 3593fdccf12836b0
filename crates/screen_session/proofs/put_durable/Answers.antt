use Rattle.std.proofs.Common.{refl}
use Rattle.screen_text.proofs.Laws.{flows_on, line_ends}
use Rattle.screen_session.proofs.put_durable.Goals.{then-durable, else-durable}
use Rattle.screen_session.proofs.put_durable.Goals as goal

pub returns : goal.returns
returns c = elim c.if-durable.branch [
  | then-durable w ↦ rw w.if-durable.true (flows_on _ (rw w.word-is at c.flow.ensures) refl (line_ends _ c.end_line.ensures))
  | else-durable w ↦ rw w.if-durable.false (flows_on _ (rw w.word-is at c.flow.ensures) refl (line_ends _ c.end_line.ensures))
]
