use Rattle.std.proofs.Common.{◌≡◌, ◌||◌, get_or, ap, arith, ◌∙◌}
use Rattle.model_active.specs.CatchUp.{member, sessions}
use Rattle.active_books_area.specs.Words.{book_of}
use Rattle.active_books_listing.proofs.Listing.{goes_on, takes, passes, no_room}
use Rattle.active_books_listing.proofs.gather_from.Goals.{then-not-is_known+else-n-len-ge-MAX_SESSIONS, else-not-is_known}
use Rattle.active_books_listing.proofs.gather_from.Goals as goal

pub returns-then-n-len-ge-MAX_SESSIONS : goal.returns-then-n-len-ge-MAX_SESSIONS
returns-then-n-len-ge-MAX_SESSIONS c =
    let asked : c.is_known.result ≡ (member (get_or c.args.listing.now c.loop-place.place 0) (sessions (book_of c.args.books.now.words.now).met) || member (get_or c.args.listing.now c.loop-place.place 0) c.loop-place.fresh.items) = c.is_known.ensures ∙ ap (λ l. member (get_or c.args.listing.now c.loop-place.place 0) (sessions (book_of c.args.books.now.words.now).met) || member (get_or c.args.listing.now c.loop-place.place 0) l) c.deref.ensures.0 in
    no_room c.args.books.now.words.now c.args.listing.now c.loop-place.fresh.items c.loop-place.place c.loop-place.invariant c.loop-place-test.true asked c.if-not-is_known.true (omega (arith, c.len.ensures.value))

pub loop-place-init : goal.loop-place-init
loop-place-init c = goes_on c.args.books.now.words.now c.args.listing.now c.args.known c.clear.new.self.items c.args.books.now.rules c.requires c.clear.ensures

pub loop-place-preserved : goal.loop-place-preserved
loop-place-preserved c =
    let asked : c.is_known.result ≡ (member (get_or c.args.listing.now c.loop-place.place 0) (sessions (book_of c.args.books.now.words.now).met) || member (get_or c.args.listing.now c.loop-place.place 0) c.loop-place.fresh.items) = c.is_known.ensures ∙ ap (λ l. member (get_or c.args.listing.now c.loop-place.place 0) (sessions (book_of c.args.books.now.words.now).met) || member (get_or c.args.listing.now c.loop-place.place 0) l) c.deref.ensures.0 in
    elim c.if-not-is_known.branch [
      | then-not-is_known+else-n-len-ge-MAX_SESSIONS w ↦ rw (w.fresh-is, w.push.ensures.items) (takes c.args.books.now.words.now c.args.listing.now c.loop-place.fresh.items c.loop-place.place c.loop-place.invariant c.loop-place-test.true asked w.if-not-is_known.true (omega (arith, w.len.ensures.value, w.if-n-len-ge-MAX_SESSIONS.false)))
      | else-not-is_known w ↦ rw w.fresh-is (passes c.args.books.now.words.now c.args.listing.now c.loop-place.fresh.items c.loop-place.place c.loop-place.invariant c.loop-place-test.true asked w.if-not-is_known.false)
    ]
