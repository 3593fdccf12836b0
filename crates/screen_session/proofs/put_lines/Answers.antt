use Rattle.std.proofs.Common.{◌∙◌}
use Rattle.store_areas.specs.Areas.{place_at}
use Rattle.screen_session.specs.Shown.{shown_lines}
use Rattle.screen_session.proofs.Laws.{key_there, all_lines}
use Rattle.screen_session.proofs.put_lines.Goals as goal

pub returns : goal.returns
unfolding shown_lines
returns c =
    let v = c.args.view.now in
    all_lines c.args.place (place_at v.shape v.words.now v.bytes.now c.args.place) (c.key.ensures ∙ key_there _ _ _ _ c.place.ensures.is) c.summary_of-summary.ensures.is c.durable.ensures c.put_key.ensures c.put_outgoing.ensures c.put_incoming.ensures
    (rw (c.slice.ensures, c.slice-2.ensures) at c.put_texts.ensures) c.put_durable.ensures
