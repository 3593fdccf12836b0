use Rattle.store_place.proofs.Messages.{tail_is}
use Rattle.store_place.proofs.place.Place.log.Goals as goal

pub returns-clause-bytes : goal.returns-clause-bytes
returns-clause-bytes c = tail_is 224 c.args.self.now.bytes.now
