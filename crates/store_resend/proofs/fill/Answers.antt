use Rattle.std.proofs.Common.{arith}
use Rattle.store_resend.specs.Ranges.{ranges_of}
use Rattle.store_resend.proofs.Passes.{fill_starts, room, fills_on, fill_ends, count_starts, counts_on, count_ends, within_C}
use Rattle.store_resend.proofs.fill.Goals as goal

pub loop-from-init : goal.loop-from-init
loop-from-init c = (fill_starts _ _ _ _ _ _ _ _ c.args.rest.now.stands, count_starts _ _ _ _ _ _ _ c.args.rest.now.stands)

pub enter-requires : goal.enter-requires
enter-requires c = room _ _ _ _ _ _ _ c.message_at-m.result c.loop-from.invariant.0 c.message_at-m.ensures c.kept_for-kept.ensures c.requires

pub go_on-p-requires : goal.go_on-p-requires
go_on-p-requires c =
    let a = c.args in
    record {
      rs = ranges_of a.ranges.now.words.now;
      first = a.rest.now.from.left;
      back = a.rest.now.from.dist;
      old = a.entries.now;
      small = within_C _ _ _ _ _ _ a.rest.now.stands;
      fits = c.requires;
      filling = fills_on _ _ _ _ _ _ _ c.message_at-m.result c.loop-from.invariant.0 c.message_at-m.ensures c.kept_for-kept.ensures c.requires c.counted-next.ensures.many c.enter.ensures;
      counting = counts_on _ _ _ _ _ _ _ c.loop-from.invariant.1 c.message_at-m.ensures c.kept_for-kept.ensures c.counted-next.ensures;
    }

pub loop-from-smaller : goal.loop-from-smaller
loop-from-smaller c = omega (arith, c.message_at-m.ensures.fewer, c.go_on-p.ensures.fewer)

pub loop-from-preserved : goal.loop-from-preserved
loop-from-preserved c =
    let a = c.args in
    let rs = ranges_of a.ranges.now.words.now in
    let q = c.go_on-p.ensures in (
      q.fills rs a.rest.now.from.left a.rest.now.from.dist a.entries.now c.requires
          (fills_on _ _ _ _ _ _ _ c.message_at-m.result c.loop-from.invariant.0 c.message_at-m.ensures c.kept_for-kept.ensures c.requires c.counted-next.ensures.many c.enter.ensures),
      q.counts rs a.rest.now.from.left a.rest.now.from.dist (counts_on _ _ _ _ _ _ _ c.loop-from.invariant.1 c.message_at-m.ensures c.kept_for-kept.ensures c.counted-next.ensures),
    )

pub returns : goal.returns
returns c = record { written = fill_ends _ _ _ _ _ _ _ c.loop-from-test.false c.loop-from.invariant.0; counts = count_ends _ _ _ _ _ _ _ c.loop-from-test.false c.loop-from.invariant.1 }
