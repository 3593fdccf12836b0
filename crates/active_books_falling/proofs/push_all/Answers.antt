use Rattle.std.proofs.Common.{◌∙◌}
use Rattle.active_books_falling.proofs.Falling.{pushes}
use Rattle.active_books_falling.proofs.push_all.Goals as goal

pub loop-session-preserved : goal.loop-session-preserved
loop-session-preserved c = (
  c.push.ensures.same_area ∙ c.loop-session.invariant.0,
  pushes c.args.books.now.words.now c.args.fallen.now c.loop-session.books.words.now c.push.new.books.words.now c.loop-session.session-index c.loop-session.invariant.1 c.loop-session-test.true c.push.ensures.makes,
)
