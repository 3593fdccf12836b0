use Rattle.std.proofs.Common.{refl}
use Rattle.screen_text.proofs.Laws.{flows_on}
use Rattle.screen_session.proofs.put_outgoing.Goals as goal

pub returns : goal.returns
returns c = flows_on _ c.flow_right-column.ensures refl c.put_stored.ensures
