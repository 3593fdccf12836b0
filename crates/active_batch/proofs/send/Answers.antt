use Rattle.std.proofs.Common.{arith}
use Rattle.store_place.proofs.Header.{next_pos}
use Rattle.active_batch.proofs.Sending.{sent, too_short}
use Rattle.active_batch.proofs.send.Goals as goal

pub plan_from-plan-requires-clause-bound : goal.plan_from-plan-requires-clause-bound
plan_from-plan-requires-clause-bound c = omega (arith, c.log-log.ensures.next, next_pos c.args.place.now.words.now)

pub returns-then-out-len : goal.returns-then-out-len
returns-then-out-len c C lb =
    let b = c.args.batch in
    let log = c.log-log.ensures in
    too_short C c.args.place.now c.log-log.result lb log.words log.bytes log.max log.next b.limit _ c.header_of-header.ensures b.handle b.epoch.0 b.commit_no.0 b.from _ c.plan_from-plan.ensures c.args.out.now c.if-out-len.true

pub returns : goal.returns
returns c C lb =
    let b = c.args.batch in
    let log = c.log-log.ensures in
    sent C c.args.place.now c.log-log.result lb log.words log.bytes log.max log.next b.limit _ c.header_of-header.ensures b.handle b.epoch.0 b.commit_no.0 b.from _ c.plan_from-plan.ensures c.args.out.now _ c.then_some.result (omega arith) c.then_some.ensures c.put_frame.ensures
