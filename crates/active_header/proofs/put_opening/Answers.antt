use Rattle.std.proofs.Common.{sym}
use borrow.Author.Tests.{eqb-true, eqb-false}
use Rattle.active_header.proofs.Ends.{put_open_none, put_open_bare, put_open_stamped}
use Rattle.active_header.proofs.put_opening.Goals as goal

pub returns-then-from-gt0 : goal.returns-then-from-gt0
returns-then-from-gt0 c = put_open_none _ _ _ c.if-from-gt0.true

pub returns-then-is_empty : goal.returns-then-is_empty
returns-then-is_empty c = put_open_bare c.args.header.now.stamp.now c.args.from c.if-from-gt0.false (eqb-true _ 0 (sym c.if-is_empty.ensures)) c.byte.ensures.put

pub returns : goal.returns
returns c = put_open_stamped c.args.header.now.stamp.now c.args.from c.if-from-gt0.false (eqb-false _ 0 (sym c.if-is_empty.ensures)) c.byte.ensures.put c.put_text.ensures
