use Rattle.std.proofs.Common.{arith}
use Rattle.store_log.proofs.Summing.{last_zero, last_one, last_some}
use Rattle.store_log.proofs.log.Log.last_outgoing.Goals as goal
use Rattle.store_log.proofs.log.Log.last_outgoing.Goals.{then-n-eq0-via-then-n-eq0, then-n-eq0-via-else-n-eq0+then-self-eq1}

pub returns-then-n-eq0 : goal.returns-then-n-eq0
returns-then-n-eq0 c =
    elim c.then-n-eq0.branch [
      | then-n-eq0-via-then-n-eq0 w ↦ last_zero _ _ _ w.if-n-eq0.true
      | then-n-eq0-via-else-n-eq0+then-self-eq1 w ↦ last_one _ _ _ w.if-self-eq1.true
    ]

pub returns : goal.returns
returns c =
    let a = c.args in
    last_some a.n a.self.now.next c.max.result _ _ c.if-n-eq0.false c.if-self-eq1.false (omega (arith, c.max.ensures, c.saturating_sub.ensures)) c.hash_from.ensures
