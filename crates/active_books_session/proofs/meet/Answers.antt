use mathlib.Core.Path.{subst}
use Rattle.active_books_area.specs.Parts.{FindsMet}
use Rattle.active_books_area.proofs.Area.{met_already, met_last}
use Rattle.active_books_session.proofs.meet.Goals as goal

pub returns-in-Some-clause-meets : goal.returns-in-Some-clause-meets
returns-in-Some-clause-meets c = met_already c.args.books.now.words.now c.args.session c.in-Some.i (subst (FindsMet c.args.books.now.words.now c.args.session) c.in-Some.is c.requires.searched)

pub returns-clause-meets : goal.returns-clause-meets
returns-clause-meets c = met_last c.args.books.now.words.now _ c.args.session (subst (FindsMet c.args.books.now.words.now c.args.session) c.in_default.is c.requires.searched) c.append.ensures.appends
