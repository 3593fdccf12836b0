use Rattle.std.proofs.Common.{refl, arith}
use Rattle.store_resend.proofs.Passes.{follow_starts, follows_on, room_here, stands_there}
use Rattle.store_resend.proofs.follow.Goals as goal

pub loop-from-init : goal.loop-from-init
loop-from-init c t e = follow_starts _ _ _ _ _ _ t _ c.args.kept c.args.tally.length e

pub message_at-m-requires-clause-position_at : goal.message_at-m-requires-clause-position_at
message_at-m-requires-clause-position_at c = stands_there _ _ _ _ _ _ _ _ _ c.requires.begun (c.loop-from.invariant c.args.tally refl)

pub returns-then-m-kept : goal.returns-then-m-kept
returns-then-m-kept c = c.loop-from.invariant c.args.tally refl

pub returns-then-kept-m : goal.returns-then-kept-m
returns-then-kept-m c = c.loop-from.invariant c.args.tally refl

pub returns : goal.returns
returns c = c.loop-from.invariant c.args.tally refl

pub enter-requires : goal.enter-requires
enter-requires c =
    room_here _ _ _ _ _ _ _ _ _ c.message_at-m.result (c.loop-from.invariant c.args.tally refl) c.message_at-m.ensures (omega (arith, c.if-m-kept.false)) (omega (arith, c.if-kept-m.false)) c.requires.begun

pub loop-from-preserved : goal.loop-from-preserved
loop-from-preserved c t e =
    follows_on _ _ _ _ _ _ t _ c.args.kept c.message_at-m.result (c.loop-from.invariant t e) c.message_at-m.ensures (omega (arith, c.if-m-kept.false)) (omega (arith, c.if-kept-m.false)) _ t.bytes c.requires.some refl c.enter.ensures

pub overflow_add-length : goal.overflow_add-length
overflow_add-length c =
    let h = room_here _ _ _ _ _ _ _ _ _ c.message_at-m.result (c.loop-from.invariant c.args.tally refl) c.message_at-m.ensures (omega (arith, c.if-m-kept.false)) (omega (arith, c.if-kept-m.false)) c.requires.begun c.requires.some in
    omega (arith, h)
