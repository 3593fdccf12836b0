use Rattle.std.proofs.Common.{refl, ap, ◌∙◌}
use Rattle.active_books_area.specs.declared.Books.{Books}
use Rattle.active_books_session.proofs.Leaving.{goes_on, stays_on, left_now}
use Rattle.active_books_session.proofs.leave.Goals.{then-behind-session, else-behind-session}
use Rattle.active_books_session.proofs.leave.Goals as goal

pub loop-j-preserved : goal.loop-j-preserved
loop-j-preserved c =
    elim c.if-behind-session.branch [
      | then-behind-session w ↦ (
        ap (λ (b : Books). b.words.ghost_name) w.books-is ∙ c.loop-j.invariant.0,
        stays_on c.args.books.now.words.now c.args.session _ c.loop-j.books.words.now c.loop-j.j c.loop-j.k _ c.args.books.now.rules.long c.args.books.now.rules.few_behind c.loop-j.invariant.1 c.loop-j-test.true refl w.if-behind-session.true _ _ (ap (λ (b : Books). b.words.now) w.books-is) w.k-is,
      )
      | else-behind-session w ↦ (
        ap (λ (b : Books). b.words.ghost_name) w.books-is ∙ c.loop-j.invariant.0,
        goes_on c.args.books.now.words.now c.args.session _ c.loop-j.books.words.now c.loop-j.j c.loop-j.k c.loop-j.invariant.1 c.loop-j-test.true w.if-behind-session.false _ _ (ap (λ (b : Books). b.words.now) w.books-is) w.k-is,
      )
    ]

pub returns-clause-makes : goal.returns-clause-makes
returns-clause-makes c = left_now c.args.books.now.words.now c.args.session c.loop-j.books.words.now c.loop-j.j c.loop-j.k c.args.books.now.rules c.loop-j.invariant.1 c.loop-j-test.false
