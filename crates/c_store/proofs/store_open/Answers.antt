use borrow.Author.Rules.{rules}
use Rattle.std.proofs.Common.{refl, sym, ◌∙◌}
use Rattle.model_text.proofs.Laws.{key_is}
use Rattle.c_store.proofs.Laws.{found, opened}
use Rattle.c_store.proofs.store_open.Goals as goal

pub open-place-requires-clause-begin_len_bound : goal.open-place-requires-clause-begin_len_bound
open-place-requires-clause-begin_len_bound c = (key_is _ _ _ _ (sym c.is_key.ensures ∙ c.if-not-is_key.false)).0.most

pub open-place-requires-clause-sender_len_bound : goal.open-place-requires-clause-sender_len_bound
open-place-requires-clause-sender_len_bound c = (key_is _ _ _ _ (sym c.is_key.ensures ∙ c.if-not-is_key.false)).1.most

pub open-place-requires-clause-target_len_bound : goal.open-place-requires-clause-target_len_bound
open-place-requires-clause-target_len_bound c = (key_is _ _ _ _ (sym c.is_key.ensures ∙ c.if-not-is_key.false)).2.most

pub open-place-requires-clause-suffix_len_bound : goal.open-place-requires-clause-suffix_len_bound
open-place-requires-clause-suffix_len_bound c = (key_is _ _ _ _ (sym c.is_key.ensures ∙ c.if-not-is_key.false)).3.most

pub returns : goal.returns
returns c =
    let o = c.in-Ok.ensures in
    opened _ _ _ _ refl o.rules c.is_key.ensures c.if-not-is_key.false (found _ _ _ _ c.in-Ok.view o.shape o.words o.bytes c.in_default.ensures) c.open-place.ensures.place
    (rw (o.words) at c.if-shape-view.false) c.open-place.ensures.is (search rules) (search rules) c.given-2.ensures
