use Rattle.std.proofs.Common.{sym, ◌∙◌}
use Rattle.model_standby.specs.State.{flush}
use Rattle.standby_state.specs.Lent.{holds_of}
use Rattle.standby_lifecycle.proofs.Laws.{unsound, keeps, not_flushed, flushed}
use Rattle.standby_lifecycle.proofs.flush.Goals as goal

pub returns-then-not-are_kept-clause-is : goal.returns-then-not-are_kept-clause-is
returns-then-not-are_kept-clause-is c =
    let a = c.args in
    let s = a.standing in
    unsound s.settings s.counters s.lookup a.areas.now.row.now a.areas.now.words.now a.areas.now.bytes.now (holds_of a.areas.now) (flush a.connection) (sym c.are_kept.ensures ∙ c.if-not-are_kept.true) c.refuse.ensures

pub returns-then-connection-counters-clause-is : goal.returns-then-connection-counters-clause-is
returns-then-connection-counters-clause-is c =
    let a = c.args in
    let s = a.standing in
    not_flushed s.settings s.counters s.lookup a.areas.now.row.now a.areas.now.words.now a.areas.now.bytes.now (holds_of a.areas.now) (sym c.are_kept.ensures ∙ c.if-not-are_kept.false) a.connection c.if-connection-counters.true c.refuse-then-connection-counters.ensures

pub run-requires : goal.run-requires
run-requires c =
    let a = c.args in
    let s = a.standing in
    keeps s.settings s.counters s.lookup a.areas.now.row.now a.areas.now.words.now a.areas.now.bytes.now (holds_of a.areas.now) (sym c.are_kept.ensures ∙ c.if-not-are_kept.false)

pub returns-clause-is : goal.returns-clause-is
returns-clause-is c =
    let a = c.args in
    let s = a.standing in
    flushed s.settings s.counters s.lookup a.areas.now.row.now a.areas.now.words.now a.areas.now.bytes.now (holds_of a.areas.now) (sym c.are_kept.ensures ∙ c.if-not-are_kept.false) a.connection c.if-connection-counters.false c.run.ensures c.done.ensures c.unchanged.ensures
