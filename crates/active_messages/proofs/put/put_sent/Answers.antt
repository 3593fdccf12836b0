use native.Mathlib.Omega.{arith}
use Rattle.active_messages.proofs.Putting.{put_sending, skip_past}
use Rattle.active_messages.proofs.put.put_sent.Goals as goal

pub put_record-requires-clause-parts_in_bounds : goal.put_record-requires-clause-parts_in_bounds
put_record-requires-clause-parts_in_bounds c = omega (arith, c.requires.parts_in_bounds, skip_past c.args.next c.args.number c.put_skip.ensures, c.put_skip.ensures.long)

pub returns : goal.returns
returns c = put_sending _ _ _ c.put_skip.ensures c.put_record.ensures
