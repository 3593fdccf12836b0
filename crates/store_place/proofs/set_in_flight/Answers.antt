use Rattle.std.proofs.Common.{arith}
use Rattle.store_place.proofs.Changes.{in_flight_lem}
use Rattle.store_place.proofs.set_in_flight.Goals as goal

pub returns : goal.returns
returns c C M b = in_flight_lem C M c.args.seq b c.args.words.now (omega arith)
