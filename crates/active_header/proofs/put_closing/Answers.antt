use Rattle.std.proofs.Common.{arith}
use Rattle.model_session.specs.Whole.{skip_to, incoming_part}
use Rattle.store_place.specs.Place.{flight_is}
use Rattle.active_header.proofs.Ends.{close_size, run_past, change_past, put_close}
use Rattle.active_header.proofs.put_closing.Goals as goal

pub put_incoming-requires : goal.put_incoming-requires
put_incoming-requires c =
    let a = c.args in
    let h = a.header.now in
    omega (arith, c.requires, close_size a.next h.next_outgoing (incoming_part h.next_incoming (flight_is h.in_flight)) h.marks.now, run_past (skip_to a.next h.next_outgoing) c.put_skip.ensures, c.put_skip.ensures.long)

pub put_text-requires-clause-s_in_bounds : goal.put_text-requires-clause-s_in_bounds
put_text-requires-clause-s_in_bounds c =
    let a = c.args in
    let h = a.header.now in
    let inc = incoming_part h.next_incoming (flight_is h.in_flight) in
    omega (arith, c.requires, close_size a.next h.next_outgoing inc h.marks.now, run_past (skip_to a.next h.next_outgoing) c.put_skip.ensures, change_past inc c.put_incoming.ensures, c.put_skip.ensures.long, c.put_incoming.ensures.long)

pub returns : goal.returns
returns c =
    let a = c.args in
    let h = a.header.now in
    put_close (skip_to a.next h.next_outgoing) (incoming_part h.next_incoming (flight_is h.in_flight)) h.marks.now c.put_skip.ensures c.put_incoming.ensures c.put_text.ensures
