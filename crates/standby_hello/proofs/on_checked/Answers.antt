use Rattle.std.proofs.Common.{refl}
use Rattle.standby_hello.proofs.Laws.{stale, other_run, said}
use Rattle.standby_hello.proofs.on_checked.Goals as goal

pub returns-then-epoch-own : goal.returns-then-epoch-own
returns-then-epoch-own c = let a = c.args in stale a.counters a.settings a.handle a.epoch.0 a.incarnation_sent.0 c.if-epoch-own.true c.unchanged.ensures c.nack-stale.ensures

pub returns-then-incarnation_sent-incarnation : goal.returns-then-incarnation_sent-incarnation
returns-then-incarnation_sent-incarnation c =
    let a = c.args in
    other_run a.counters a.settings a.handle a.epoch.0 a.incarnation_sent.0 c.if-epoch-own.false c.incarnation.ensures c.if-incarnation_sent-incarnation.true c.unchanged-then-incarnation_sent-incarnation.ensures c.nack-restarted.ensures

pub returns : goal.returns
returns c =
    let a = c.args in
    said a.counters a.settings a.handle a.epoch.0 a.incarnation_sent.0 c.if-epoch-own.false c.incarnation.ensures refl c.if-incarnation_sent-incarnation.false c.checked_at.ensures c.unchanged-2.ensures c.ack.ensures
