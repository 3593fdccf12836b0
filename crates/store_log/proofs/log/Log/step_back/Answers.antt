use Rattle.std.proofs.Common.{◌≡◌, ◌+◌, ◌-◌, refl, arith}
use Rattle.store_log.proofs.Reading.{ends_apart, ends_full, goes}
use Rattle.store_log.proofs.log.Log.step_back.Goals as goal
use Rattle.store_log.proofs.log.Log.step_back.Goals.{then-at-reach-via-then-at-reach, then-at-reach-via-else-at-reach+then-at-len}

pub returns-then-at-reach : goal.returns-then-at-reach
returns-then-at-reach c =
    let above = c.above-reach in
    let reached = c.requires.reached in
    elim c.then-at-reach.branch [
      | then-at-reach-via-then-at-reach w ↦
          ends_apart _ _ _ _ _ _ _ _ _ _ above.result reached c.requires.le_slot c.requires.left_lt_max (above.ensures.is, above.ensures.wrapped) (omega (arith, w.if-at-reach.true))
      | then-at-reach-via-else-at-reach+then-at-len w ↦
          ends_full _ _ _ _ _ _ _ _ _ _ above.result reached c.requires.le_slot c.requires.left_lt_max w.if-at-len.true
    ]

pub returns : goal.returns
returns c =
    let above = c.above-reach in
    let slots : c.args.at.slot - 1 + 1 ≡ c.args.at.slot = omega arith in
    (slots, refl, goes _ _ _ _ _ _ _ _ _ _ above.result c.requires.reached c.requires.le_slot c.requires.left_lt_max c.requires.le_low (above.ensures.is, above.ensures.wrapped) (omega (arith, c.if-at-reach.false)) c.if-at-len.false refl)
