use Rattle.std.proofs.Common.{◌≡◌, ◌+◌, ◌≤◌, length}
use Rattle.store_log.specs.Log.{Reached}
use Rattle.store_log.proofs.log.Log.walk_back.Given as goal

abbrev pub invariant-loop-at : goal.invariant-loop-at
invariant-loop-at l =
    let log = l.self in
    Reached (length log.bytes.now) log.max log.next l.low log.words.now log.bytes.now l.at.left l.at.room l.at.slot l.at.reach
    × (l.start ≤ l.at.slot) × (l.at.slot ≤ log.max) × (l.at.left + l.at.slot ≡ l.fn.from.left + l.fn.from.slot)

abbrev pub decreases-loop-at : goal.decreases-loop-at
decreases-loop-at l = l.at.slot
