use Rattle.c_store.proofs.Laws.{made_by}
use Rattle.c_store.proofs.store_make.Goals as goal

pub returns : goal.returns
returns c = made_by c.make.ensures c.number.ensures
