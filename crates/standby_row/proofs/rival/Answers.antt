use Rattle.std.proofs.Common.{◌∙◌, rules}
use Rattle.std.proofs.lemmas.Iterator.Search.{position_from_yields_List}
use Rattle.std.proofs.lemmas.Iterator.{YieldsList-from_slice}
use Rattle.standby_row.specs.Row.{is_rival}
use Rattle.standby_row.proofs.Lists.{placed}
use Rattle.standby_row.proofs.rival.Goals as goal

pub returns : goal.returns
returns c = position_from_yields_List (λ h. is_rival h c.args.handle c.args.place) _ _ c.position.result c.position.ensures.ran (YieldsList-from_slice c.args.row.now cc) (λ x b q k. search rules) ∙ placed (λ h. is_rival h c.args.handle c.args.place) c.args.row.now
