use Rattle.std.proofs.Common.{sym, ap, ◌∙◌, length}
use Rattle.model_session.specs.Session.{stored_bytes}
use Rattle.screen_session.proofs.Laws.{stored_none, stored_some, none_left, left_length, left_bytes}
use Rattle.screen_session.proofs.put_stored.Goals as goal

pub returns-then-all-eq0 : goal.returns-then-all-eq0
returns-then-all-eq0 c = let v = c.args.view.now in stored_none (sym c.messages_from-all.ensures.is ∙ none_left v.shape v.words.now v.bytes.now c.args.place _ c.if-all-eq0.true) c.flow.ensures c.end_line.ensures

pub returns : goal.returns
returns c =
    let v = c.args.view.now in
    let all = c.messages_from-all.ensures in
    stored_some _ _ (sym all.is ∙ c.message_at-first.ensures.is) c.last_number-last.ensures (left_length v.shape v.words.now v.bytes.now c.args.place _ _ all.stands ∙ ap length all.is)
    (left_bytes v.shape v.words.now v.bytes.now c.args.place _ _ all.stands ∙ ap stored_bytes all.is) c.flow_number-from.ensures c.flow_number-to.ensures c.flow_grouped-count.ensures c.flow_grouped.ensures c.end_line-2.ensures
