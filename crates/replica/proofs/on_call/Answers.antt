use borrow.Author.Rules.{rules}
use Rattle.std.proofs.Common.{◌≡◌, ℕ, sym, subst, List}
use Rattle.standby_row.specs.declared.Bound.{Bound}
use Rattle.standby_segments.specs.Segments.{hold_areas}
use Rattle.standby_state.specs.Lent.{holds_of}
use Rattle.standby_call.specs.Call.{call_of}
use Rattle.standby_step.specs.Calls.{Called}
use Rattle.standby_step.proofs.Called.{called}
use Rattle.std.specs.Prelude.{Option}
use Rattle.model_frame.proofs.Le.{are_bytes}
use Rattle.standby_state.specs.declared.Answer.{Answer}
use Rattle.standby_state.specs.Answers.{handing_up}
use Rattle.standby_step.specs.Lowest.{lowest_told}
use Rattle.standby_state.specs.Outcomes.{row_after}
use Rattle.replica.proofs.Ending.{at_end, bytes_of_call, told_at}
use Rattle.replica.proofs.on_call.Goals as goal

pub returns : goal.returns
returns c =
    let a = c.args in
    let n = c.run-outcome.new.areas in
    let o = c.run-outcome.result in
    let call = call_of a.call a.frame.now in
    let told = c.handed_up-lowest.result in
    let seen = rw (c.sought_by-handle.ensures, c.places_in_use-used.ensures, c.room_of-room.ensures) at c.find-lookup.ensures in
    let is_told : told ≡ lowest_told a.settings c.find-lookup.result call n.words.now n.bytes.now o.answer = told_at a.settings c.find-lookup.result call n.words.now n.bytes.now o.answer c.handed_up-lowest.ensures (search rules) (search rules) in
    at_end
    (subst (λ (x : Answer). Called a.settings call a.counters.now o.replica a.row.now (c.apply.new.row) a.words.now n.words.now a.bytes.now n.bytes.now (hold_areas a.holds.now a.ends.now) (holds_of n) x) (sym c.handing_up.ensures)
    (subst (λ (r : List Bound). Called a.settings call a.counters.now o.replica a.row.now r a.words.now n.words.now a.bytes.now n.bytes.now (hold_areas a.holds.now a.ends.now) (holds_of n) (handing_up told o.answer)) (sym c.apply.ensures)
    (subst (λ (t : Option ℕ). Called a.settings call a.counters.now o.replica a.row.now (row_after o.action a.row.now) a.words.now n.words.now a.bytes.now n.bytes.now (hold_areas a.holds.now a.ends.now) (holds_of n) (handing_up t o.answer)) (sym is_told)
    (called a.settings a.counters.now a.row.now call a.words.now n.words.now a.bytes.now n.bytes.now (hold_areas a.holds.now a.ends.now) (holds_of n) o c.find-lookup.result seen (bytes_of_call a.call a.frame.now (are_bytes a.frame.now (λ i. (c.type_inv.frame i).fits))) c.run-outcome.ensures.is))))
    (search rules) (search rules) (search rules) (search rules)
