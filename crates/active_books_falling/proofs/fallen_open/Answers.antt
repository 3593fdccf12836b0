use Rattle.std.proofs.Common.{arith}
use Rattle.model_active.specs.CatchUp.{open_only}
use Rattle.active_books_falling.proofs.Falling.{falls_in, falls_not, fallen_of}
use Rattle.active_books_falling.proofs.fallen_open.Goals.{then-falls_open, else-falls_open}
use Rattle.active_books_falling.proofs.fallen_open.Goals as goal

pub loop-k-preserved : goal.loop-k-preserved
loop-k-preserved c =
    elim c.if-falls_open.branch [
      | then-falls_open w ↦ rw (w.fallen-is, w.push.ensures.items) (falls_in c.args.books.now.words.now (open_only c.args.incarnation.0) c.loop-k.fallen.items c.loop-k.k c.loop-k.invariant c.falls_open.ensures w.if-falls_open.true)
      | else-falls_open w ↦ rw w.fallen-is (falls_not c.args.books.now.words.now (open_only c.args.incarnation.0) c.loop-k.fallen.items c.loop-k.k c.loop-k.invariant c.falls_open.ensures w.if-falls_open.false)
    ]

pub returns-clause-list : goal.returns-clause-list
returns-clause-list c = fallen_of c.args.books.now.words.now (open_only c.args.incarnation.0) c.loop-k.fallen.items c.loop-k.k c.loop-k.invariant (omega arith) (omega arith)
