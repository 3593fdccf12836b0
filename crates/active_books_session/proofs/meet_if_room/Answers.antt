use Rattle.std.proofs.Common.{refl, arith}
use mathlib.Core.Path.{subst}
use Rattle.active_books_area.specs.Parts.{FindsMet}
use Rattle.active_books_area.proofs.Area.{met_full}
use Rattle.active_books_session.proofs.meet_if_room.Goals as goal

pub returns-then-n-eq-MAX_SESSIONS-clause-meets : goal.returns-then-n-eq-MAX_SESSIONS-clause-meets
returns-then-n-eq-MAX_SESSIONS-clause-meets c =
    met_full c.args.books.now.words.now c.args.session c.find_met-found.result _ (subst (λ w. FindsMet w c.args.session c.find_met-found.result) c.view.ensures c.find_met-found.ensures) c.if-is_none.ensures (omega arith) refl
