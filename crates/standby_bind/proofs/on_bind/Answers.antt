use borrow.Author.Rules.{rules}
use Rattle.frame_fields.specs.Answers.{key_of}
use Rattle.standby_bind.proofs.Laws.{stale, lagging, long_stamp, all_places, all_handles, binds, binds_in}
use Rattle.standby_bind.proofs.on_bind.Goals as goal

pub returns-then-epoch-counters-clause-is : goal.returns-then-epoch-counters-clause-is
returns-then-epoch-counters-clause-is c =
    let a = c.args in
    let s = a.standing in
    stale s.settings s.counters s.lookup a.areas.now.row.now a.handle a.epoch.0 a.max_lag (key_of a.frame.now a.session) a.areas.now.words.now a.areas.now.bytes.now c.requires.rules c.if-epoch-counters.true c.unchanged.ensures c.nack-stale.ensures

pub returns-then-settings-max_lag-clause-is : goal.returns-then-settings-max_lag-clause-is
returns-then-settings-max_lag-clause-is c =
    let a = c.args in
    let s = a.standing in
    lagging s.settings s.counters s.lookup a.areas.now.row.now a.handle a.epoch.0 a.max_lag (key_of a.frame.now a.session) a.areas.now.words.now a.areas.now.bytes.now c.requires.rules c.if-epoch-counters.false c.if-settings-max_lag.true c.unchanged-then-settings-max_lag.ensures c.nack-lagging.ensures

pub returns-then-not-suits-clause-is : goal.returns-then-not-suits-clause-is
returns-then-not-suits-clause-is c =
    let a = c.args in
    let s = a.standing in
    long_stamp s.settings s.counters s.lookup a.areas.now.row.now a.handle a.epoch.0 a.max_lag (key_of a.frame.now a.session) a.areas.now.words.now a.areas.now.bytes.now c.requires.rules c.if-epoch-counters.false c.if-settings-max_lag.false c.place_of-found.ensures c.suits.ensures c.if-not-suits.true c.refuse.ensures

pub returns-then-not-has_place-clause-is : goal.returns-then-not-has_place-clause-is
returns-then-not-has_place-clause-is c =
    let a = c.args in
    let s = a.standing in
    all_places s.settings s.counters s.lookup a.areas.now.row.now a.handle a.epoch.0 a.max_lag (key_of a.frame.now a.session) a.areas.now.words.now a.areas.now.bytes.now c.requires.rules c.if-epoch-counters.false c.if-settings-max_lag.false c.place_of-found.ensures c.suits.ensures c.if-not-suits.false c.has_place.ensures c.if-not-has_place.true c.refuse-then-not-has_place.ensures

pub returns-then-not-has_room-clause-is : goal.returns-then-not-has_room-clause-is
returns-then-not-has_room-clause-is c =
    let a = c.args in
    let s = a.standing in
    all_handles s.settings s.counters s.lookup a.areas.now.row.now a.handle a.epoch.0 a.max_lag (key_of a.frame.now a.session) a.areas.now.words.now a.areas.now.bytes.now c.requires.rules c.if-epoch-counters.false c.if-settings-max_lag.false c.place_of-found.ensures c.suits.ensures c.if-not-suits.false c.has_place.ensures c.if-not-has_place.false (rw c.unwrap_or.ensures at c.rival-rival.ensures) c.has_room.ensures c.if-not-has_room.true c.refuse-then-not-has_room.ensures

pub returns-clause-is : goal.returns-clause-is
returns-clause-is c =
    let a = c.args in
    let s = a.standing in
    let m = c.summary_at-summary.ensures in
    binds_in s.settings s.counters s.lookup a.areas.now.row.now a.handle a.epoch.0 a.max_lag (key_of a.frame.now a.session) a.areas.now.words.now a.areas.now.bytes.now c.requires.rules
    (binds s.settings s.counters s.lookup a.areas.now.row.now a.handle a.epoch.0 a.max_lag (key_of a.frame.now a.session) a.areas.now.words.now a.areas.now.bytes.now c.requires.rules c.if-epoch-counters.false c.if-settings-max_lag.false c.place_of-found.ensures c.suits.ensures c.if-not-suits.false c.has_place.ensures c.if-not-has_place.false (rw c.unwrap_or.ensures at c.rival-rival.ensures) c.has_room.ensures c.if-not-has_room.false c.open-place.ensures.place c.open-place.ensures.is m.exact (rw c.open-place.ensures.same.shape at m.is) c.bound-answer.ensures c.new_bound.ensures c.rebound.ensures)
    (search rules) (search rules)
