use Rattle.std.proofs.Common.{refl}
use Rattle.screen_text.proofs.Laws.{flows_on, line_ends}
use Rattle.screen_session.proofs.put_flight.Goals.{in-Some, in-None}
use Rattle.screen_session.proofs.put_flight.Goals as goal

pub returns : goal.returns
returns c = elim c.match-in_flight.branch [
  | in-Some w ↦ rw (w.in-Some.is) (flows_on _ w.flow_number-number.ensures refl (flows_on _ w.flow-handed.ensures refl (flows_on _ w.flow.ensures refl (line_ends _ (rw (← w.text-is) c.end_line.ensures)))))
  | in-None w ↦ rw (w.in-None.is) (flows_on _ w.flow-in-None.ensures refl (line_ends _ (rw (← w.text-is) c.end_line.ensures)))
]
