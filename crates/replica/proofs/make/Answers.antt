use Rattle.std.proofs.Common.{sym, ◌∙◌, ap}
use Rattle.standby_state.specs.Answers.{is_refused}
use Rattle.replica.proofs.Making.{one_inside, not_made, made}
use Rattle.replica.proofs.make.Goals as goal

pub returns-then-not-allowed : goal.returns-then-not-allowed
returns-then-not-allowed c =
    let a = c.args in
    not_made a.settings a.counters.now a.row.now a.words.now a.bytes.now (sym c.allowed.ensures ∙ c.if-not-allowed.true) (c.refused.ensures ∙ ap is_refused c.number.ensures)

pub bounds-words-1 : goal.bounds-words-1
bounds-words-1 c = one_inside c.args.settings c.args.words.now c.args.bytes.now (sym c.allowed.ensures ∙ c.if-not-allowed.false)

pub returns : goal.returns
returns c =
    let a = c.args in
    made a.settings a.counters.now a.row.now a.words.now a.bytes.now (sym c.allowed.ensures ∙ c.if-not-allowed.false) c.done.ensures c.new.ensures c.clear.ensures
