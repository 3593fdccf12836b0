use Rattle.store_resend.specs.Passes.{LogAt, Counting}
use Rattle.store_resend.specs.Ranges.{ranges_of}
use Rattle.store_resend.proofs.count.Given as goal

abbrev pub invariant-loop-found : goal.invariant-loop-found
invariant-loop-found l =
    let v = l.rest.view.now in
    let at = l.found-iterator.position in
    (goal.iterator-loop-found).can_next l.found-iterator × (goal.iterator-loop-found).is_finite l.found-iterator × LogAt v.shape v.words.now v.bytes.now l.rest.place l.found-iterator.log
    × Counting v.shape v.words.now v.bytes.now l.rest.place (ranges_of l.ranges.words.now) l.rest.from.left l.rest.from.dist at.left at.dist l.tally l.kept
