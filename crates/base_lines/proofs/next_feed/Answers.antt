use Rattle.base_lines.proofs.Laws.{found_from}
use Rattle.base_lines.proofs.next_feed.Goals as goal

pub returns : goal.returns
returns c = found_from c.args.piece.now c.args.from _ c.feed_place.result _ c.in-Some.ensures.lookup.0.2 c.feed_place.ensures c.unwrap_or.ensures
