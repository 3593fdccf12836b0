use Rattle.std.proofs.Common.{◌+◌, sym, subst, arith}
use Rattle.store_log.specs.declared.LogPosition.{LogPosition}
use Rattle.store_log.specs.declared.log.Log.{Log}
use Rattle.store_resend.specs.Passes.{LogAt}
use Rattle.store_resend.proofs.Passes.{Turn, stands_in_log, turn_in, over_on}
use Rattle.store_resend.proofs.pass_over.Goals as goal

pub messages_at-found-items-requires : goal.messages_at-found-items-requires
messages_at-found-items-requires c = stands_in_log _ _ _ _ _ c.log-log.ensures c.args.rest.now.stands

pub loop-found-preserved : goal.loop-found-preserved
loop-found-preserved c =
    let v = c.args.rest.now.view.now in
    let i = c.loop-found.invariant in
    let steps = c.in-Some.ensures.steps in
    let next = subst (λ (x : LogPosition). Turn v.shape v.words.now v.bytes.now c.args.rest.now.place x.left x.dist c.in-Some.found.number (c.in-Some.found.span.first + c.in-Some.found.span.rest) c.in-Some.found.next.left c.in-Some.found.next.dist) i.3 (turn_in _ _ _ _ _ i.2 steps.1.1) in (
      tt,
      tt,
      subst (λ (x : Log). LogAt v.shape v.words.now v.bytes.now c.args.rest.now.place x) (sym steps.0) i.2,
      steps.1.0,
      over_on _ _ _ _ _ _ _ i.4 next (omega arith) (omega arith) c.requires,
    )
