use Rattle.std.specs.Prelude.{◌≡◌, ◌+◌, ◌-◌}
use Rattle.store_resend.specs.declared.Tally.{Tally}
use Rattle.store_resend.specs.Passes.{Carries}
use Rattle.store_resend.proofs.follow.Given as goal

abbrev pub invariant-loop-from : goal.invariant-loop-from
invariant-loop-from l =
    (t : Tally) → t.length ≡ l.initial.length → Carries l.rest.view.now.shape l.rest.view.now.words.now l.rest.view.now.bytes.now l.rest.place l.kept l.rest.from.left l.rest.from.dist t l.initial.entries l.from.left l.from.dist (record { length = l.length; bytes = t.bytes + (l.rest.from.dist - l.from.dist) }) l.entries

abbrev pub decreases-loop-from : goal.decreases-loop-from
decreases-loop-from l = l.from.left
