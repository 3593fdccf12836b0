use Rattle.std.proofs.Common.{[], refl, arith}
use Rattle.screen_text.proofs.Laws.{began, all_had}
use Rattle.screen_session.proofs.Laws.{shown_short}
use Rattle.screen_session.proofs.write_lines.Goals as goal

pub returns : goal.returns
returns c =
    let v = c.args.view.now in
    let had = all_had (c.put_lines.ensures.has [] (began _ refl)) (omega (arith, c.put_lines.ensures.long, shown_short v.shape v.words.now v.bytes.now c.args.place, c.told-area)) in
    record { size = had.0; is = had.1 }
