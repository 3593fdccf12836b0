use Rattle.std.proofs.Common.{subst, arith}
use Rattle.model_standby.specs.Store.{taken_over}
use Rattle.store_areas.specs.declared.Shape.{Shape}
use Rattle.store_areas.specs.Areas.{Changed}
use Rattle.store_areas.proofs.Sameness.{same_self, same_then}
use Rattle.store_sessions.proofs.Promoting.{promoting_starts, promoting_goes, promoting_ends}
use Rattle.store_sessions.proofs.take_over_all.Goals as goal

pub loop-i-init : goal.loop-i-init
loop-i-init c = (promoting_starts _ _ _ _ c.args.store.now.rules, same_self _)

pub take_over-requires : goal.take_over-requires
take_over-requires c = omega (arith, c.loop-i-test.true, c.loop-i.invariant.0.count)

pub loop-i-preserved : goal.loop-i-preserved
loop-i-preserved c =
    let a = c.args in
    let l = c.loop-i in
    let n = c.take_over.new.store in
    let done : Changed a.store.now.shape l.i (taken_over a.lag) l.store.words.now n.words.now l.store.bytes.now n.bytes.now =
    subst (λ (s : Shape). Changed s l.i (taken_over a.lag) l.store.words.now n.words.now l.store.bytes.now n.bytes.now) l.invariant.1.shape c.take_over.ensures.is in
    (promoting_goes _ _ _ _ _ _ _ _ l.i l.invariant.0 c.loop-i-test.true done, same_then _ _ _ l.invariant.1 c.take_over.ensures.same)

pub returns-clause-is : goal.returns-clause-is
returns-clause-is c = promoting_ends _ _ _ _ _ _ c.loop-i.i c.loop-i.invariant.0 c.loop-i-test.false
