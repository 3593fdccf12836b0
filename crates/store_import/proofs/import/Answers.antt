use Rattle.store_import.proofs.Answering.{rules_broken, no_key, stored, no_place, bad_file, used, next_one, is_taken}
use Rattle.model_text.proofs.Laws.{key_is}
use Rattle.std.proofs.Common.{rules, refl, sym, ◌∙◌, arith}
use Rattle.std.proofs.lemmas.Result.{err_from_is_err_and}
use Rattle.store_import.proofs.import.Goals as goal

pub returns-in_default : goal.returns-in_default
returns-in_default c = rw c.refused.ensures (rules_broken _ _ _ _ _ refl c.in_default.ensures.0)

pub returns-then-not-is_key : goal.returns-then-not-is_key
returns-then-not-is_key c = rw c.refused-then-not-is_key.ensures (no_key _ _ _ _ _ refl c.in-Ok.ensures.rules c.is_key.ensures c.if-not-is_key.true)

pub returns-then-is_some : goal.returns-then-is_some
returns-then-is_some c =
    rw c.refused-then-is_some.ensures
    (stored _ _ _ _ _ refl c.in-Ok.ensures.rules c.is_key.ensures c.if-not-is_key.false (rw (c.in-Ok.ensures.shape, c.in-Ok.ensures.words, c.in-Ok.ensures.bytes) at c.place_of.ensures) c.is_some.ensures c.if-is_some.true)

pub returns-then-shape-view : goal.returns-then-shape-view
returns-then-shape-view c =
    rw c.refused-then-shape-view.ensures
    (no_place _ _ _ _ _ refl c.in-Ok.ensures.rules c.is_key.ensures c.if-not-is_key.false (rw (c.in-Ok.ensures.shape, c.in-Ok.ensures.words, c.in-Ok.ensures.bytes) at c.place_of.ensures) c.is_some.ensures (omega (arith, (rw (c.in-Ok.ensures.words) at c.if-shape-view.true))))

pub returns-in_err-judge_file : goal.returns-in_err-judge_file
returns-in_err-judge_file c =
    let p = err_from_is_err_and c.from_residual.result c.from_residual.ensures.1 in
    rw (p.1, p.2)
    (bad_file _ _ _ _ _ refl c.in-Ok.ensures.rules c.is_key.ensures c.if-not-is_key.false (rw (c.in-Ok.ensures.shape, c.in-Ok.ensures.words, c.in-Ok.ensures.bytes) at c.place_of.ensures) c.is_some.ensures c.if-is_some.false (omega (arith, (rw (c.in-Ok.ensures.words) at c.if-shape-view.false))) _ c.in_err-judge_file.ensures)

pub open-place-requires-clause-begin_len_bound : goal.open-place-requires-clause-begin_len_bound
open-place-requires-clause-begin_len_bound c = (key_is _ _ _ _ (sym c.is_key.ensures ∙ c.if-not-is_key.false)).0.most

pub open-place-requires-clause-sender_len_bound : goal.open-place-requires-clause-sender_len_bound
open-place-requires-clause-sender_len_bound c = (key_is _ _ _ _ (sym c.is_key.ensures ∙ c.if-not-is_key.false)).1.most

pub open-place-requires-clause-target_len_bound : goal.open-place-requires-clause-target_len_bound
open-place-requires-clause-target_len_bound c = (key_is _ _ _ _ (sym c.is_key.ensures ∙ c.if-not-is_key.false)).2.most

pub open-place-requires-clause-suffix_len_bound : goal.open-place-requires-clause-suffix_len_bound
open-place-requires-clause-suffix_len_bound c = (key_is _ _ _ _ (sym c.is_key.ensures ∙ c.if-not-is_key.false)).3.most

pub record_all-requires-clause-place_bound : goal.record_all-requires-clause-place_bound
record_all-requires-clause-place_bound c =
    used _ _ _ _ _ refl c.in-Ok.ensures.rules c.is_key.ensures c.if-not-is_key.false (rw (c.in-Ok.ensures.shape, c.in-Ok.ensures.words, c.in-Ok.ensures.bytes) at c.place_of.ensures) c.is_some.ensures c.if-is_some.false (omega (arith, (rw (c.in-Ok.ensures.words) at c.if-shape-view.false))) c.in_ok-judge_file.ensures c.open-place.ensures.place _ _ c.open-place.ensures.is

pub record_all-requires-clause-place_value : goal.record_all-requires-clause-place_value
record_all-requires-clause-place_value c =
    rw c.open-place.ensures.same.shape
    (next_one _ _ _ _ _ refl c.in-Ok.ensures.rules c.is_key.ensures c.if-not-is_key.false (rw (c.in-Ok.ensures.shape, c.in-Ok.ensures.words, c.in-Ok.ensures.bytes) at c.place_of.ensures) c.is_some.ensures c.if-is_some.false (omega (arith, (rw (c.in-Ok.ensures.words) at c.if-shape-view.false))) c.in_ok-judge_file.ensures c.open-place.ensures.place _ _ c.open-place.ensures.is)

pub returns : goal.returns
returns c =
    is_taken _ _ _ _ _ refl c.in-Ok.ensures.rules c.is_key.ensures c.if-not-is_key.false (rw (c.in-Ok.ensures.shape, c.in-Ok.ensures.words, c.in-Ok.ensures.bytes) at c.place_of.ensures) c.is_some.ensures c.if-is_some.false (omega (arith, (rw (c.in-Ok.ensures.words) at c.if-shape-view.false))) c.in_ok-judge_file.ensures c.open-place.ensures.place _ _ c.open-place.ensures.is c.open-place.ensures.same.shape c.record_all.ensures.is (search rules) (search rules)
