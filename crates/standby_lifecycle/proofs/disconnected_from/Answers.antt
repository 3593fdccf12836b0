use Rattle.std.proofs.Common.{sym, ◌∙◌}
use Rattle.model_standby.specs.State.{disconnected_from}
use Rattle.standby_state.specs.Lent.{holds_of}
use Rattle.standby_lifecycle.proofs.Laws.{unsound, front_there, other_lost, own_lost}
use Rattle.standby_lifecycle.proofs.disconnected_from.Goals as goal

pub returns-then-not-are_kept-clause-is : goal.returns-then-not-are_kept-clause-is
returns-then-not-are_kept-clause-is c =
    let a = c.args in
    let s = a.standing in
    unsound s.settings s.counters s.lookup a.areas.now.row.now a.areas.now.words.now a.areas.now.bytes.now (holds_of a.areas.now) (disconnected_from a.connection) (sym c.are_kept.ensures ∙ c.if-not-are_kept.true) c.refuse.ensures

pub clear-requires : goal.clear-requires
clear-requires c =
    let a = c.args in
    let s = a.standing in
    front_there s.settings s.counters s.lookup a.areas.now.row.now a.areas.now.words.now a.areas.now.bytes.now (holds_of a.areas.now) (sym c.are_kept.ensures ∙ c.if-not-are_kept.false)

pub returns-then-connection-counters-clause-is : goal.returns-then-connection-counters-clause-is
returns-then-connection-counters-clause-is c =
    let a = c.args in
    let s = a.standing in
    other_lost s.settings s.counters s.lookup a.areas.now.row.now a.areas.now.words.now a.areas.now.bytes.now (holds_of a.areas.now) (sym c.are_kept.ensures ∙ c.if-not-are_kept.false) a.connection c.if-connection-counters.true c.done.ensures c.unchanged.ensures

pub returns-clause-is : goal.returns-clause-is
returns-clause-is c =
    let a = c.args in
    let s = a.standing in
    own_lost s.settings s.counters s.lookup a.areas.now.row.now a.areas.now.words.now a.areas.now.bytes.now (holds_of a.areas.now) (sym c.are_kept.ensures ∙ c.if-not-are_kept.false) a.connection c.if-connection-counters.false c.clear.ensures.writes c.done-2.ensures c.cleared.ensures
