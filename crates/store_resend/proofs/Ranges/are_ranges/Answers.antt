use Rattle.std.proofs.Common.{rules, refl, ap, ◌∙◌, ℕ, arith}
use Rattle.std.proofs.lemmas.Iterator.{YieldsList-from_range}
use Rattle.std.proofs.lemmas.Iterator.Search.{all_from_yields_List}
use Rattle.model_resend.specs.Resend.{are_ranges}
use Rattle.store_resend.specs.Ranges.{ranges_from}
use Rattle.store_resend.proofs.Laws.{is_range_at, all_from}
use Rattle.store_resend.proofs.Ranges.are_ranges.Goals as goal

pub returns : goal.returns
returns c =
    let w = c.args.self.now.words.now in
    all_from_yields_List (is_range_at w) _ _ _ c.all.ensures.ran (YieldsList-from_range 0 c.count.result _ refl (omega arith)) (λ x b q r. search rules)
    ∙ all_from w 0 c.count.result ∙ ap (λ (n : ℕ). are_ranges (ranges_from w 0 n)) c.count.ensures
