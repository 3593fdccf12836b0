use Rattle.standby_segments.specs.Segments.{hold_areas}
use Rattle.standby_part.proofs.Wholes.{whole_on, whole_held, whole_area, not_held_is}
use Rattle.standby_part.proofs.on_whole.Goals as goal

pub returns-in-Ok-clause-is : goal.returns-in-Ok-clause-is
returns-in-Ok-clause-is c =
    let a = c.args in
    let x = a.changes.now.changes in
    rw (c.with_held.ensures, c.close.ensures) (whole_held x.protocol.version a.bound a.number x.run.now (hold_areas a.area.now a.ends.now) (λ i. (c.slice_known-1.given i).fits) x.octets c.requires.held_len_in_bounds a.changes.now.takes_all c.in-Ok.held c.in-Ok.ensures)

pub returns-in-Ok-clause-area : goal.returns-in-Ok-clause-area
returns-in-Ok-clause-area c =
    let a = c.args in
    let x = a.changes.now.changes in
    rw c.close.ensures (whole_area x.protocol.version a.bound a.number x.run.now (hold_areas a.area.now a.ends.now) (λ i. (c.slice_known-1.given i).fits) x.octets c.requires.held_len_in_bounds a.changes.now.takes_all c.in-Ok.held c.in-Ok.ensures)

pub returns-in-Err-clause-is : goal.returns-in-Err-clause-is
returns-in-Err-clause-is c =
    let a = c.args in
    let x = a.changes.now.changes in
    let area = hold_areas a.area.now a.ends.now in
    rw c.not_held.ensures (λ s w b rules. not_held_is x.protocol.version a.bound a.number x.run.now area s w b rules _ _ (whole_on x.protocol.version a.bound a.number x.run.now area s w b) (λ i. (c.slice_known-1.given i).fits) _ c.in-Err.error.held c.in-Err.error.why c.in-Err.ensures)
