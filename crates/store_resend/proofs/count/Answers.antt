use Rattle.std.proofs.Common.{◌+◌, sym, ap, subst, ◌∙◌, ◌≡◌, arith}
use Rattle.store_log.specs.declared.LogPosition.{LogPosition}
use Rattle.store_log.specs.declared.log.Log.{Log}
use Rattle.store_log.specs.declared.log.Messages.{Messages}
use Rattle.store_resend.specs.Ranges.{ranges_of}
use Rattle.store_resend.specs.Passes.{LogAt, Counting}
use Rattle.store_resend.proofs.Passes.{Turn, stands_in_log, turn_in, count_starts, counts_turn, count_ends}
use Rattle.store_resend.proofs.count.Goals.{In-Some}
use Rattle.store_resend.proofs.count.Goals as goal

pub messages_at-found-items-requires : goal.messages_at-found-items-requires
messages_at-found-items-requires c = stands_in_log _ _ _ _ _ c.log-log.ensures c.args.rest.now.stands

pub loop-found-init : goal.loop-found-init
loop-found-init c =
    let v = c.args.rest.now.view.now in
    let i = c.args.rest.now.place in
    let from = c.args.rest.now.from in
    let it = c.into_iter-found-iterator in
    let m = c.messages_at-found-items in
    let log : it.result.log ≡ c.log-log.result = ap (λ (x : Messages). x.log) it.ensures.into_iter_gives ∙ m.ensures.log in
    let at : it.result.position ≡ from = ap (λ (x : Messages). x.position) it.ensures.into_iter_gives ∙ m.ensures.position in (
      tt,
      tt,
      subst (λ (x : Log). LogAt v.shape v.words.now v.bytes.now i x) (sym log) c.log-log.ensures,
      subst
          (λ (x : LogPosition). Counting v.shape v.words.now v.bytes.now i (ranges_of c.args.ranges.now.words.now) from.left from.dist x.left x.dist (record { length = 0; bytes = 0 }) (record { base = 1; until = 0; set = 0 }))
          (sym at) (count_starts _ _ _ _ _ _ _ c.args.rest.now.stands),
    )

turn : (c : In-Some) → Turn c.args.rest.now.view.now.shape c.args.rest.now.view.now.words.now c.args.rest.now.view.now.bytes.now c.args.rest.now.place c.loop-found.found-iterator.position.left c.loop-found.found-iterator.position.dist c.in-Some.found.number (c.in-Some.found.span.first + c.in-Some.found.span.rest) c.in-Some.found.next.left c.in-Some.found.next.dist
turn c = turn_in _ _ _ _ _ c.loop-found.invariant.2 c.in-Some.ensures.steps.1.1

pub kept_for-kept-requires : goal.kept_for-kept-requires
kept_for-kept-requires c = c.loop-found.invariant.3.keeps

pub overflow_add-found : goal.overflow_add-found
overflow_add-found c =
    let t = turn (goal.at.overflow_add-found c).In-Some in
    record { fits = omega (arith, t.nearer, c.loop-found.invariant.3.less, c.args.rest.now.dist_fits) }

pub counted-tally-requires-clause-length_bound : goal.counted-tally-requires-clause-length_bound
counted-tally-requires-clause-length_bound c =
    let t = turn (goal.at.counted-tally-requires-clause-length_bound c).In-Some in
    omega (arith, t.fewer, c.loop-found.invariant.3.few, c.args.rest.now.left_fits)

pub counted-tally-requires-clause-size_bound : goal.counted-tally-requires-clause-size_bound
counted-tally-requires-clause-size_bound c =
    let t = turn (goal.at.counted-tally-requires-clause-size_bound c).In-Some in
    omega (arith, t.nearer, c.loop-found.invariant.3.less, c.args.rest.now.dist_fits)

pub loop-found-preserved : goal.loop-found-preserved
loop-found-preserved c =
    let v = c.args.rest.now.view.now in
    let i = c.loop-found.invariant in
    let from = c.args.rest.now.from in
    let steps = c.in-Some.ensures.steps in (
      tt,
      tt,
      subst (λ (x : Log). LogAt v.shape v.words.now v.bytes.now c.args.rest.now.place x) (sym steps.0) i.2,
      subst
          (λ (x : LogPosition). Counting v.shape v.words.now v.bytes.now c.args.rest.now.place (ranges_of c.args.ranges.now.words.now) from.left from.dist x.left x.dist c.counted-tally.result c.kept_for-kept.result)
          (sym steps.1.0) (counts_turn _ _ _ _ _ _ _ i.3 (turn (goal.at.loop-found-preserved c).In-Some) c.kept_for-kept.ensures c.counted-tally.ensures),
    )

pub returns : goal.returns
returns c = count_ends _ _ _ _ _ _ _ (omega (arith, c.in-None.ensures.steps.1.0)) c.loop-found.invariant.3
