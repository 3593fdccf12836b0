use Rattle.std.proofs.Common.{◌≡◌, subst, arith, rules, ◌+◌, ◌<◌, length, set, suc}
use Rattle.std.proofs.lemmas.List.{set-get_or}
use Rattle.std.specs.Str.{NoCharPasses}
use Rattle.std.specs.Char.{is_not_whitespace}
use Rattle.std.specs.Str.Iter.{split_whitespace_rest}
use Rattle.vectors_script.specs.Words.{TakesNumbers}
use Rattle.vectors_script.proofs.Reading.{number_parsed, takes_more, reads}
use Rattle.vectors_script.proofs.numbers.Goals.{else-loop-place-test, then-loop-place-test+in_default}
use Rattle.vectors_script.proofs.numbers.Goals as goal

pub loop-place-preserved : goal.loop-place-preserved
loop-place-preserved c =
    let l = c.loop-place in
    let many : c.saturating_add-count.result ≡ l.place-index + 1 = search rules in
    let past : suc l.count ≡ c.saturating_add-count.result = omega (arith, many, l.invariant.0) in
    let less : l.count < length l.place-items = search rules in
    let taken = takes_more l.place-items l.count c.unwrap_or.result c.args.words.now _ c.next.new.self c.in-Some.word less l.invariant.1 c.in-Some.ensures.steps (number_parsed c.in-Some.word.now c.parse.result _ c.parse.ensures.value.0 c.unwrap_or.ensures) in
    (many, subst (λ n. TakesNumbers (set l.place-items l.place-index c.unwrap_or.result) n c.args.words.now c.next.new.self) past (subst (λ i. TakesNumbers (set l.place-items i c.unwrap_or.result) (suc l.count) c.args.words.now c.next.new.self) l.invariant.0 taken))

pub returns : goal.returns
returns c =
    let l = c.loop-place in
    let ends : TakesNumbers c.loop-place-test.room l.count c.args.words.now c.loop-place-test.words × (l.count < length c.args.room.now → NoCharPasses is_not_whitespace (split_whitespace_rest c.loop-place-test.words)) =
    elim c.loop-place-test.branch [
      | else-loop-place-test w ↦ (rw (w.room-is, w.words-is) l.invariant.1, λ less. absurd (omega (arith, less, w.loop-place-test.false, l.invariant.0)))
      | then-loop-place-test+in_default w ↦ (rw (w.room-is, set-get_or, w.words-is, w.in_default.ensures.steps.0) l.invariant.1, λ _. rw (w.words-is, w.in_default.ensures.steps.0) w.in_default.ensures.steps.1)
    ]
    in
    reads c.args.room.now c.loop-place-test.room l.count c.args.words.now c.loop-place-test.words c.get.result c.unwrap_or-2.result _ c.loop-place-test.auto.room (omega (arith, l.invariant.0, l.auto.place-index-end, l.auto.place-items, c.loop-place-test.auto.room)) c.get.ensures.lookup c.unwrap_or-2.ensures ends.0 ends.1
