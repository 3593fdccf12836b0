use Rattle.std.proofs.Common.{sym, ◌∙◌}
use Rattle.model_standby.specs.State.{on_frame_held}
use Rattle.standby_state.specs.Lent.{holds_of}
use Rattle.standby_frame.proofs.Laws.{rules_seen, holds_seen, refuses_25, held_steps}
use Rattle.standby_frame.proofs.on_frame_held.Goals as goal

pub returns-then-not-are_kept-clause-is : goal.returns-then-not-are_kept-clause-is
returns-then-not-are_kept-clause-is c =
    let a = c.args in
    let s = a.standing in
    refuses_25 s.settings s.counters s.lookup a.areas.now.row.now a.areas.now.words.now a.areas.now.bytes.now (holds_of a.areas.now) (on_frame_held a.frame.now) c.are_kept.ensures c.if-not-are_kept.true c.refuse.ensures

pub on_bytes-requires-clause-rules : goal.on_bytes-requires-clause-rules
on_bytes-requires-clause-rules c =
    let a = c.args in
    let s = a.standing in
    rules_seen s.settings s.counters s.lookup a.areas.now.row.now a.areas.now.words.now a.areas.now.bytes.now (holds_of a.areas.now) (sym c.are_kept.ensures ∙ c.if-not-are_kept.false)

pub on_bytes-requires-clause-record_rules_in : goal.on_bytes-requires-clause-record_rules_in
on_bytes-requires-clause-record_rules_in c =
    let a = c.args in
    let s = a.standing in
    holds_seen s.settings s.counters s.lookup a.areas.now.row.now a.areas.now.words.now a.areas.now.bytes.now (holds_of a.areas.now) (sym c.are_kept.ensures ∙ c.if-not-are_kept.false)

pub returns-clause-is : goal.returns-clause-is
returns-clause-is c =
    let a = c.args in
    let s = a.standing in
    held_steps s.settings s.counters s.lookup a.areas.now.row.now a.areas.now.words.now a.areas.now.bytes.now (holds_of a.areas.now) a.frame.now c.are_kept.ensures c.if-not-are_kept.false c.on_bytes.ensures.is
