use Rattle.std.proofs.Common.{◌≡◌, ◌+◌, ◌%◌, ◌∙◌, rules}
use Rattle.std.specs.List.{fold}
use Rattle.fix_field.proofs.Scan.{sum_all}
use Rattle.fix_field.proofs.sum.Goals as goal

pub returns : goal.returns
returns c = let folded : c.fold.result ≡ fold (λ r b. (r + b) % 256) 0 c.args.text.now = search rules in folded ∙ sum_all c.args.text.now
