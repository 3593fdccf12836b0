use Rattle.std.proofs.Common.{arith}
use Rattle.store_place.proofs.Changes.{incoming}
use Rattle.store_place.proofs.set_next_incoming.Goals as goal

pub returns : goal.returns
returns c C M b = incoming C M c.args.seq b c.args.words.now (omega arith)
