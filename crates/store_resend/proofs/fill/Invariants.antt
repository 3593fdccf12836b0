use Rattle.store_resend.specs.Ranges.{ranges_of}
use Rattle.store_resend.specs.Passes.{Counting, Filling}
use Rattle.store_resend.proofs.fill.Given as goal

abbrev pub invariant-loop-from : goal.invariant-loop-from
invariant-loop-from l =
    Filling l.rest.view.now.shape l.rest.view.now.words.now l.rest.view.now.bytes.now l.rest.place (ranges_of l.ranges.words.now) l.rest.from.left l.rest.from.dist l.initial.entries l.from.left l.from.dist l.tally.length l.kept l.entries
    × Counting l.rest.view.now.shape l.rest.view.now.words.now l.rest.view.now.bytes.now l.rest.place (ranges_of l.ranges.words.now) l.rest.from.left l.rest.from.dist l.from.left l.from.dist l.tally l.kept

abbrev pub decreases-loop-from : goal.decreases-loop-from
decreases-loop-from l = l.from.left
