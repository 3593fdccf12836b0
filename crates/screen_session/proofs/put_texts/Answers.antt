use Rattle.std.proofs.Common.{List, ℕ, ◌++◌, ap, append-nil, refl, ◌∙◌, codes}
use Rattle.model_screen.specs.Columns.{at_left}
use Rattle.screen_text.proofs.Laws.{flows_on, line_ends}
use Rattle.screen_session.proofs.put_texts.Goals as goal

pub returns : goal.returns
returns c =
    flows_on _ c.flow_left-since.ensures (ap (λ (l : List ℕ). codes "      since " ++ at_left 20 l) c.or_words.ensures)
    (flows_on _ c.flow-label.ensures refl (flows_on _ c.flow.ensures (append-nil _ ∙ c.or_words-2.ensures) (line_ends _ c.end_line.ensures)))
