use Rattle.std.proofs.Common.{◌≡◌}
use Rattle.vectors_script.specs.Words.{TakesNumbers}
use Rattle.vectors_script.proofs.numbers.Given as goal

abbrev pub invariant-loop-place : goal.invariant-loop-place
invariant-loop-place l = (l.count ≡ l.place-index) × TakesNumbers l.place-items l.count l.fn.words l.words
