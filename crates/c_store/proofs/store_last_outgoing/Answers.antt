use Rattle.std.proofs.Common.{rules}
use Rattle.c_store.proofs.Laws.{read}
use Rattle.c_store.proofs.store_last_outgoing.Goals as goal

pub returns : goal.returns
returns c = read _ _ _ c.with_place-view.ensures c.map.ensures.cases (λ x n u p. search (rules, p)) c.from.ensures
