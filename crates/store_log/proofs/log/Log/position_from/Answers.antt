use Rattle.std.proofs.Common.{◌≡◌, ◌+◌, length, arith}
use Rattle.store_log.proofs.Reading.{counted_none, counted_out, reached_round, arrived}
use Rattle.store_log.proofs.log.Log.position_from.Goals as goal
use Rattle.store_log.proofs.log.Log.position_from.Goals.{then-max-eq0-via-then-max-eq0, then-max-eq0-via-else-max-eq0+then-self-low}

pub returns-then-max-eq0 : goal.returns-then-max-eq0
returns-then-max-eq0 c =
    let log = c.args.self.now in
    elim c.then-max-eq0.branch [
      | then-max-eq0-via-then-max-eq0 w ↦
          counted_none (length log.bytes.now) log.max log.next c.args.low log.words.now log.bytes.now w.if-max-eq0.true
      | then-max-eq0-via-else-max-eq0+then-self-low w ↦
          counted_out (length log.bytes.now) log.max log.next c.args.low log.words.now log.bytes.now w.if-self-low.true
    ]

pub walk_back-older-requires-clause-reached : goal.walk_back-older-requires-clause-reached
walk_back-older-requires-clause-reached c = reached_round _ _ _ _ _ _ _ _ _ _ c.if-newer-gt0.false c.walk_back-newer.ensures.reached

pub returns : goal.returns
returns c =
    let newer = c.walk_back-newer in
    let older = c.walk_back-older in
    let all : older.result.left + older.result.slot ≡ c.args.self.now.max + c.head-head.result = omega (arith, newer.ensures.together, older.ensures.together, c.if-newer-gt0.false) in
    arrived _ _ _ _ _ _ _ _ _ _ _ older.ensures.reached all older.ensures.within older.ensures.stopped
