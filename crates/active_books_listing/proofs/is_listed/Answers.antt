use Rattle.std.proofs.Common.{refl, arith, ◌∙◌}
use Rattle.active_books_area.proofs.Area.{contained}
use Rattle.active_books_listing.proofs.Listing.{listed_at}
use Rattle.active_books_listing.proofs.is_listed.Goals as goal

pub returns-then-eq : goal.returns-then-eq
returns-then-eq c = listed_at c.args.listing.now c.args.session c.args.place c.get.result _ c.get.ensures.lookup.0 (c.get.ensures.lookup.4 (omega arith)) refl c.eq.ensures c.if-eq.true

pub returns-else-eq : goal.returns-else-eq
returns-else-eq c = c.contains.ensures.value ∙ contained c.args.session c.args.listing.now
