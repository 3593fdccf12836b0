use Rattle.c_stored.proofs.Laws.{lowest_told}
use Rattle.c_stored.proofs.wz_lowest.Goals as goal

pub returns : goal.returns
returns c = lowest_told c.lowest.result c.lowest.ensures c.from.ensures
