use Rattle.std.proofs.Common.{arith}
use Rattle.store_place.proofs.Changes.{incoming_in_flight}
use Rattle.store_place.proofs.set_next_incoming_in_flight.Goals as goal

pub returns : goal.returns
returns c C M b = incoming_in_flight C M c.args.seq c.args.in_flight b c.args.words.now (omega arith)
