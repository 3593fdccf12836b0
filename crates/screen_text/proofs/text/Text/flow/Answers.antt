use Rattle.screen_text.proofs.Laws.{flowed}
use Rattle.screen_text.proofs.text.Text.flow.Goals as goal

pub returns : goal.returns
returns c =
    let a = c.args in
    flowed a.a.now a.b.now a.c.now c.min.ensures c.min-2.ensures c.min-3.ensures c.break_before-next.ensures.adds c.show.ensures c.show-2.ensures c.show-3.ensures c.break_before-next.ensures.column
