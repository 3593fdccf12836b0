use Rattle.std.proofs.Common.{◌≡◌}
use Rattle.model_screen.specs.SessionText.{last_number}
use Rattle.store_sessions.specs.Answers.{PositionAt, rest_at}
use Rattle.screen_session.proofs.last_number.Given as goal

abbrev pub invariant-loop-from : goal.invariant-loop-from
invariant-loop-from l =
    let v = l.view in
    PositionAt v.shape v.words.now v.bytes.now l.place l.from.left l.from.dist
    × (last_number l.last (rest_at v.shape v.words.now v.bytes.now l.place l.from.left) ≡ last_number l.n (rest_at v.shape v.words.now v.bytes.now l.place l.fn.position.left))

abbrev pub decreases-loop-from : goal.decreases-loop-from
decreases-loop-from l = l.from.left
