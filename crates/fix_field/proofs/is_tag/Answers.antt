use Rattle.std.proofs.Common.{◌∙◌, ap, List, ℕ}
use Rattle.model_fix.specs.Field.{same_text}
use Rattle.fix_field.specs.Reading.{part}
use Rattle.fix_field.proofs.Scan.{same_pointwise}
use Rattle.fix_field.proofs.is_tag.Goals as goal

pub returns : goal.returns
returns g c =
    c.eq.ensures
    ∙ same_pointwise c.as_slice.result.now (part c.args.file.now c.args.at c.args.eq)
    ∙ ap (λ (t : List ℕ). same_text t (part c.args.file.now c.args.at c.args.eq)) c.as_slice.ensures
