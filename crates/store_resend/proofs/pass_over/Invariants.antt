use Rattle.std.proofs.Common.{◌≡◌}
use Rattle.store_resend.specs.Passes.{LogAt, PassesOver}
use Rattle.store_resend.proofs.pass_over.Given as goal

abbrev pub invariant-loop-found : goal.invariant-loop-found
invariant-loop-found l =
    let v = l.rest.view.now in
    (goal.iterator-loop-found).can_next l.found-iterator × (goal.iterator-loop-found).is_finite l.found-iterator × LogAt v.shape v.words.now v.bytes.now l.rest.place l.found-iterator.log × (l.found-iterator.position ≡ l.from)
    × PassesOver v.shape v.words.now v.bytes.now l.rest.place l.kept l.rest.from.left l.rest.from.dist l.from.left l.from.dist
