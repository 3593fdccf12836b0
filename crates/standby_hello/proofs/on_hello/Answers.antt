use Rattle.std.proofs.Common.{refl, ◌∙◌}
use Rattle.frame_stamp.proofs.Versions.{version_spoken, version_refused}
use Rattle.standby_hello.proofs.Laws.{other_version, some_kinds, lower_told, taken}
use Rattle.standby_hello.proofs.on_hello.Goals as goal

pub returns-in-Err : goal.returns-in-Err
returns-in-Err c = let a = c.args in λ kinds e. other_version a.counters a.settings a.version a.epoch.0 kinds (version_refused _ a.version c.in-Err.ensures).0 c.refuse.ensures

pub returns-then-not-no_kinds : goal.returns-then-not-no_kinds
returns-then-not-no_kinds c =
    let a = c.args in
    λ kinds e. some_kinds a.counters a.settings a.version a.epoch.0 kinds (version_spoken c.in-Ok.p.version a.version c.in-Ok.ensures).0 (e ∙ c.if-not-no_kinds.true) c.refuse-then-not-no_kinds.ensures

pub returns-then-epoch-own : goal.returns-then-epoch-own
returns-then-epoch-own c =
    let a = c.args in
    λ kinds e. lower_told a.counters a.settings a.version a.epoch.0 kinds (version_spoken c.in-Ok.p.version a.version c.in-Ok.ensures).0 (e ∙ c.if-not-no_kinds.false) c.if-epoch-own.true c.incarnation-run.ensures
    c.unchanged.ensures c.welcome.ensures

pub returns : goal.returns
returns c =
    let a = c.args in
    let spoken = version_spoken c.in-Ok.p.version a.version c.in-Ok.ensures in
    λ kinds e. taken a.counters a.settings a.version a.epoch.0 kinds spoken.0 (e ∙ c.if-not-no_kinds.false) (c.byte.ensures ∙ spoken.1) refl c.if-epoch-own.false c.incarnation-run.ensures c.connected.ensures
    c.cleared.ensures c.welcome-2.ensures
