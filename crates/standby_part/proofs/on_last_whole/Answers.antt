use Rattle.standby_segments.specs.Segments.{hold_areas}
use Rattle.standby_part.proofs.Wholes.{last_on, last_settled, not_held_is}
use Rattle.standby_part.proofs.on_last_whole.Goals as goal

pub returns-in-Ok-clause-is : goal.returns-in-Ok-clause-is
returns-in-Ok-clause-is c =
    let a = c.args in
    let x = a.changes.now.changes in
    last_settled x.protocol.version a.bound a.number x.run.now (hold_areas a.area.now a.ends.now) (λ i. (c.slice_known-1.given i).fits) x.octets c.requires.held_len_in_bounds a.changes.now.takes_all c.in-Ok.held c.in-Ok.ensures a.store.now.shape _ _ c.requires.place_bound (rw (c.held_changes-all.ensures, c.closed_ends-closed.ensures) at c.settle_held.ensures.is)

pub returns-in-Err-clause-is : goal.returns-in-Err-clause-is
returns-in-Err-clause-is c =
    let a = c.args in
    let x = a.changes.now.changes in
    let area = hold_areas a.area.now a.ends.now in
    rw c.not_held.ensures (not_held_is x.protocol.version a.bound a.number x.run.now area a.store.now.shape _ _ a.store.now.rules _ _ (last_on x.protocol.version a.bound a.number x.run.now area a.store.now.shape _ _) (λ i. (c.slice_known-1.given i).fits) _ c.in-Err.error.held c.in-Err.error.why c.in-Err.ensures)
