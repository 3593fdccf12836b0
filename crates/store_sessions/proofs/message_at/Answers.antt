use Rattle.std.proofs.Common.{arith}
use Rattle.store_sessions.proofs.Parts.{stands_in, read_at}
use Rattle.store_sessions.proofs.message_at.Goals as goal

pub overflow_add-result : goal.overflow_add-result
overflow_add-result c =
    let at = c.spot-spot.ensures in
    record { fits = omega (arith, at, (c.message_at-found.ensures c.args.view.now.shape.bytes at.bytes_part).inside, at.at) }

pub overflow_cast-result : goal.overflow_cast-result
overflow_cast-result c =
    let at = c.spot-spot.ensures in
    record { fits = omega (arith, (c.message_at-found.ensures c.args.view.now.shape.bytes at.bytes_part).inside, c.args.view.now.rules.room.bytes_limit) }

pub overflow_cast-result-2 : goal.overflow_cast-result-2
overflow_cast-result-2 c =
    let at = c.spot-spot.ensures in
    record { fits = omega (arith, (c.message_at-found.ensures c.args.view.now.shape.bytes at.bytes_part).front, c.args.view.now.rules.room.bytes_limit) }

pub message_at-found-requires-clause-position_in : goal.message_at-found-requires-clause-position_in
message_at-found-requires-clause-position_in c =
    let a = c.args in
    stands_in a.view.now.shape a.place _ _ _ _ a.view.now.words.now a.view.now.bytes.now c.spot-spot.ensures c.args.view.now.rules c.requires.place_bound a.position.left a.position.dist c.requires.position_at

pub returns : goal.returns
returns c =
    let a = c.args in
    let at = c.spot-spot.ensures in
    let r = c.message_at-found in
    read_at a.view.now.shape a.place _ _ _ _ a.view.now.words.now a.view.now.bytes.now at c.args.view.now.rules c.requires.place_bound a.position.left a.position.dist r.result.number r.result.span.start r.result.span.first r.result.span.rest r.result.next.left r.result.next.dist (r.ensures a.view.now.shape.bytes at.bytes_part)
