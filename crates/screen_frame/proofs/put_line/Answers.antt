use Rattle.std.proofs.Common.{refl, ap, ◌∙◌, append-nil}
use Rattle.model_screen.specs.Columns.{shown}
use Rattle.model_screen.specs.FrameText.{frame_line}
use Rattle.screen_text.proofs.Laws.{adds_none, adds_on, flows_on, line_ends}
use Rattle.screen_frame.proofs.Laws.{flows_as, shown_once}
use Rattle.screen_frame.proofs.put_line.Goals as goal

pub returns : goal.returns
unfolding frame_line
returns c =
    let w = c.write_answer-len.ensures in
    adds_on
    (flows_on _ c.flow_right-at.ensures refl
    (flows_on _ c.flow_right_grouped-what.ensures refl
    (flows_on _ c.flow_what-answer.ensures refl (flows_on _ (flows_as c.flow.ensures (ap shown (append-nil _ ∙ w.is) ∙ shown_once _)) refl (line_ends _ c.end_line.ensures)))))
    adds_none
