use Rattle.std.proofs.Common.{rules}
use Rattle.c_store.proofs.Laws.{read, counted}
use Rattle.c_store.proofs.store_count.Goals as goal

pub returns : goal.returns
returns c = read _ _ _ c.with_place-view.ensures c.map.ensures.cases (λ x n u p. search (rules, p, counted)) c.from.ensures
