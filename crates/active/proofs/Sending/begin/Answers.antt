use Rattle.std.proofs.lemmas.Result.{err_from_is_err_and}
use Rattle.std.proofs.Common.{refl, sym, arith, ◌∙◌, length}
use Rattle.model_session.specs.Whole.{whole_batches}
use Rattle.frame_stamp.proofs.Versions.{version_spoken, version_refused}
use Rattle.active.specs.Whole.{start_from}
use Rattle.active.proofs.Storing.{is_held, not_held, lent_session, lent_suits}
use Rattle.active.proofs.Calling.{other_version, long_stamp, numbers_past, numbers_fit}
use Rattle.active.proofs.Sending.begin.Goals as goal

pub returns-in_err-view : goal.returns-in_err-view
unfolding start_from
returns-in_err-view c =
    let a = c.args in
    let p = err_from_is_err_and c.from_residual.result c.from_residual.ensures.1 in
    record { start = rw (p.1, p.2, c.in_err-view.ensures.1, not_held a.shape a.words.now a.bytes.now a.place _ refl c.in_err-view.ensures.0) refl; begun_on = rw p.1 tt }

pub returns-in_err-protocol : goal.returns-in_err-protocol
returns-in_err-protocol c =
    let a = c.args in
    let o = c.in_ok-view.ensures in
    let v = version_refused _ _ c.in_err-protocol.ensures in
    let p = err_from_is_err_and c.from_residual-in_err-protocol.result c.from_residual-in_err-protocol.ensures.1 in
    record { start = rw (p.1, p.2, v.1, is_held a.shape a.words.now a.bytes.now a.place _ refl o.in_use) (other_version _ _ _ _ _ _ _ v.0); begun_on = rw p.1 tt }

pub returns-then-not-suits : goal.returns-then-not-suits
returns-then-not-suits c =
    let a = c.args in
    let o = c.in_ok-view.ensures in
    let v = version_spoken _ _ c.in_ok-protocol.ensures in
    let lent = rw (o.shape, o.words, o.bytes) at c.place-stored.ensures.is in
    let suited = lent_suits a.shape a.words.now a.bytes.now a.place _ _ lent _ _ v.1 _ c.suits.ensures in
    record { start = rw (is_held a.shape a.words.now a.bytes.now a.place _ refl o.in_use) (long_stamp _ _ _ _ _ _ _ v.0 (sym suited ∙ c.if-not-suits.true)); begun_on = tt }

pub returns-then-last-count : goal.returns-then-last-count
returns-then-last-count c =
    let a = c.args in
    let o = c.in_ok-view.ensures in
    let v = version_spoken _ _ c.in_ok-protocol.ensures in
    let lent = rw (o.shape, o.words, o.bytes) at c.place-stored.ensures.is in
    let max = rw (o.shape) at c.place-stored.ensures.max in
    let long = rw (o.shape) at c.place-stored.ensures.long in
    let same = lent_session a.shape a.words.now a.bytes.now a.place _ _ _ lent max in
    let suited = lent_suits a.shape a.words.now a.bytes.now a.place _ _ lent _ _ v.1 _ c.suits.ensures in
    let count = c.batches-count.ensures.is a.shape.bytes long ∙ (λ j. length (whole_batches (c.batch_bytes.ensures j) (same j))) in
    record { start = rw (is_held a.shape a.words.now a.bytes.now a.place _ refl o.in_use) (numbers_past _ _ _ _ _ _ _ v.0 (sym suited ∙ c.if-not-suits.false) _ count (omega arith) c.if-last-count.true); begun_on = tt }

pub returns : goal.returns
returns c =
    let a = c.args in
    let o = c.in_ok-view.ensures in
    let v = version_spoken _ _ c.in_ok-protocol.ensures in
    let lent = rw (o.shape, o.words, o.bytes) at c.place-stored.ensures.is in
    let max = rw (o.shape) at c.place-stored.ensures.max in
    let long = rw (o.shape) at c.place-stored.ensures.long in
    let same = lent_session a.shape a.words.now a.bytes.now a.place _ _ _ lent max in
    let suited = lent_suits a.shape a.words.now a.bytes.now a.place _ _ lent _ _ v.1 _ c.suits.ensures in
    let count = c.batches-count.ensures.is a.shape.bytes long ∙ (λ j. length (whole_batches (c.batch_bytes.ensures j) (same j))) in
    record { start = rw (is_held a.shape a.words.now a.bytes.now a.place _ refl o.in_use) (numbers_fit _ _ _ _ _ _ _ v.0 (sym suited ∙ c.if-not-suits.false) _ count (omega arith) c.if-last-count.false); begun_on = refl }
