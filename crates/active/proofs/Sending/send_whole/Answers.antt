use Rattle.std.proofs.Common.{refl, sym, arith, rules, ◌∙◌, ◌≡◌, false, Fits, w64}
use Rattle.std.proofs.Math.Option.{some}
use Rattle.std.proofs.lemmas.Result.{err_from_is_err_and}
use Rattle.frame_stamp.proofs.Versions.{version_spoken, version_refused}
use Rattle.active.specs.Whole.{unsuited}
use Rattle.active.proofs.Storing.{held, is_held, not_held, lent_session, lent_suits}
use Rattle.active.proofs.Calling.{not_stored, is_spent, not_spent, below_top, is_other, is_done, is_long, suited, later, is_short, is_frame}
use Rattle.active.proofs.Sending.send_whole.Goals as goal
use Rattle.active.proofs.Sending.send_whole.Goals.{else-from-eq0-via-then-from-eq0+else-not-suits, else-from-eq0-via-else-from-eq0}

pub returns-in_err-view : goal.returns-in_err-view
returns-in_err-view c =
    let a = c.args in
    let p = err_from_is_err_and c.from_residual.result c.from_residual.ensures.1 in
    rw (p.1, p.2, c.in_err-view.ensures.1) (not_stored _ a.shape a.words.now a.bytes.now a.self a.out.now (not_held a.shape a.words.now a.bytes.now a.self.place _ refl c.in_err-view.ensures.0))

pub returns-then-self : goal.returns-then-self
returns-then-self c =
    let a = c.args in
    is_spent _ a.shape a.words.now a.bytes.now a.self a.out.now _ (is_held a.shape a.words.now a.bytes.now a.self.place _ refl c.in_ok-view.ensures.in_use) (sym c.is_some.ensures ∙ c.if-is_some.true) (omega (arith, c.if-self.true))

pub returns-in_err-protocol : goal.returns-in_err-protocol
returns-in_err-protocol c =
    let a = c.args in
    let e : Fits w64 (a.self.last.0) = search rules in
    let fresh = not_spent a.self.last.0 a.self.from _ c.is_some.ensures (omega (arith, e.fits)) c.else-is_some.either in
    let v = version_refused _ _ c.in_err-protocol.ensures in
    let p = err_from_is_err_and c.from_residual-in_err-protocol.result c.from_residual-in_err-protocol.ensures.1 in
    rw (p.1, p.2) (is_other _ a.shape a.words.now a.bytes.now a.self a.out.now _ (is_held a.shape a.words.now a.bytes.now a.self.place _ refl c.in_ok-view.ensures.in_use) fresh _ v.0 v.1)

pub returns-in_default : goal.returns-in_default
returns-in_default c =
    let a = c.args in
    let e : Fits w64 (a.self.last.0) = search rules in
    let fresh = not_spent a.self.last.0 a.self.from _ c.is_some.ensures (omega (arith, e.fits)) c.else-is_some.either in
    let v = version_spoken _ _ c.in_ok-protocol.ensures in
    is_done _ a.shape a.words.now a.bytes.now a.self a.out.now _ (is_held a.shape a.words.now a.bytes.now a.self.place _ refl c.in_ok-view.ensures.in_use) fresh v.0 c.in_default.is

pub returns-then-not-suits : goal.returns-then-not-suits
returns-then-not-suits c =
    let a = c.args in
    let o = c.in_ok-view.ensures in
    let e : Fits w64 (a.self.last.0) = search rules in
    let fresh = not_spent a.self.last.0 a.self.from _ c.is_some.ensures (omega (arith, e.fits)) c.else-is_some.either in
    let v = version_spoken _ _ c.in_ok-protocol.ensures in
    let lent = rw (o.shape, o.words, o.bytes) at c.place-stored.ensures.is in
    let suits = lent_suits a.shape a.words.now a.bytes.now a.self.place _ _ lent _ _ v.1 _ c.suits.ensures in
    is_long _ a.shape a.words.now a.bytes.now a.self a.out.now _ (is_held a.shape a.words.now a.bytes.now a.self.place _ refl o.in_use) fresh v.0 _ c.in-Some.is c.if-from-eq0.true (sym suits ∙ c.if-not-suits.true)

pub returns-in_err-written : goal.returns-in_err-written
returns-in_err-written c =
    let a = c.args in
    let o = c.in_ok-view.ensures in
    let e : Fits w64 (a.self.last.0) = search rules in
    let fresh = not_spent a.self.last.0 a.self.from _ c.is_some.ensures (omega (arith, e.fits)) c.else-is_some.either in
    let v = version_spoken _ _ c.in_ok-protocol.ensures in
    let lent = rw (o.shape, o.words, o.bytes) at c.place-stored.ensures.is in
    let max = rw (o.shape) at c.place-stored.ensures.max in
    let long = rw (o.shape) at c.place-stored.ensures.long in
    let same = lent_session a.shape a.words.now a.bytes.now a.self.place _ _ _ lent max in
    let u : unsuited a.self.version (held a.shape a.words.now a.bytes.now a.self.place).stamp (some c.in-Some.from) ≡ false =
    elim c.else-from-eq0.branch [
      | else-from-eq0-via-then-from-eq0+else-not-suits w ↦ suited _ _ _ (sym (lent_suits a.shape a.words.now a.bytes.now a.self.place _ _ lent _ _ v.1 _ w.suits.ensures) ∙ w.if-not-suits.false)
      | else-from-eq0-via-else-from-eq0 w ↦ later _ _ _ w.if-from-eq0.false
    ] in
    let wrote = rw (same, c.batch_bytes.ensures) at (c.in_err-written.ensures a.shape.bytes long) in
    let p = err_from_is_err_and c.from_residual-in_err-written.result c.from_residual-in_err-written.ensures.1 in
    rw (p.1, p.2) (is_short _ a.shape a.words.now a.bytes.now a.self a.out.now _ (is_held a.shape a.words.now a.bytes.now a.self.place _ refl o.in_use) _ c.in-Some.is (below_top _ _ _ c.in-Some.is fresh) v.0 u _ _ wrote)

pub returns : goal.returns
returns c =
    let a = c.args in
    let o = c.in_ok-view.ensures in
    let e : Fits w64 (a.self.last.0) = search rules in
    let fresh = not_spent a.self.last.0 a.self.from _ c.is_some.ensures (omega (arith, e.fits)) c.else-is_some.either in
    let v = version_spoken _ _ c.in_ok-protocol.ensures in
    let lent = rw (o.shape, o.words, o.bytes) at c.place-stored.ensures.is in
    let max = rw (o.shape) at c.place-stored.ensures.max in
    let long = rw (o.shape) at c.place-stored.ensures.long in
    let same = lent_session a.shape a.words.now a.bytes.now a.self.place _ _ _ lent max in
    let u : unsuited a.self.version (held a.shape a.words.now a.bytes.now a.self.place).stamp (some c.in-Some.from) ≡ false =
    elim c.else-from-eq0.branch [
      | else-from-eq0-via-then-from-eq0+else-not-suits w ↦ suited _ _ _ (sym (lent_suits a.shape a.words.now a.bytes.now a.self.place _ _ lent _ _ v.1 _ w.suits.ensures) ∙ w.if-not-suits.false)
      | else-from-eq0-via-else-from-eq0 w ↦ later _ _ _ w.if-from-eq0.false
    ] in
    let wrote = rw (same, c.batch_bytes.ensures) at (c.in_ok-written.ensures a.shape.bytes long) in
    is_frame _ a.shape a.words.now a.bytes.now a.self a.out.now _ (is_held a.shape a.words.now a.bytes.now a.self.place _ refl o.in_use) _ c.in-Some.is (below_top _ _ _ c.in-Some.is fresh) v.0 u _ _ wrote
