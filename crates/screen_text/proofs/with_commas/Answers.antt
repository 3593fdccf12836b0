use Rattle.std.proofs.Common.{[], refl, arith}
use Rattle.screen_text.proofs.Laws.{began, all_had, commas_short}
use Rattle.screen_text.proofs.with_commas.Goals as goal

pub returns-clause-len : goal.returns-clause-len
returns-clause-len c = (all_had (c.group.ensures.has [] (began _ refl)) (omega (arith, c.group.ensures.long, commas_short c.args.digits.now, c.requires, c.told-area))).0

pub returns-clause-area : goal.returns-clause-area
returns-clause-area c = (all_had (c.group.ensures.has [] (began _ refl)) (omega (arith, c.group.ensures.long, commas_short c.args.digits.now, c.requires, c.told-area))).1
