use Rattle.std.proofs.Common.{arith}
use Rattle.base_lines.proofs.Laws.{bounds, copied, feeds}
use Rattle.base_lines.proofs.feed.Goals as goal

-- src/lib.rt:33:40
pub slice_bounds-copy_from_slice-end-2 : goal.slice_bounds-copy_from_slice-end-2
slice_bounds-copy_from_slice-end-2 c = let b = bounds c.args.piece.now c.args.from c.next_feed-to.result (omega arith) c.next_feed-to.ensures in omega arith

pub overflow_add-to : goal.overflow_add-to
overflow_add-to c = let b = bounds c.args.piece.now c.args.from c.next_feed-to.result (omega arith) c.next_feed-to.ensures in omega arith

pub returns : goal.returns
returns c =
    let a = c.args in
    let b = bounds a.piece.now a.from c.next_feed-to.result (omega arith) c.next_feed-to.ensures in
    feeds a.line.now a.len a.piece.now a.from c.next_feed-to.result c.min-n.result (omega arith) (omega arith) c.next_feed-to.ensures c.min-n.ensures _
    (copied a.line.now a.len a.piece.now a.from c.min-n.result _ (omega (arith, c.min-n.ensures)) c.copy_from_slice.ensures.after) c.then_some.ensures
