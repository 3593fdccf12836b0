use Rattle.store_place.proofs.Suiting.{latest_suits, stored_short, long_suits}
use Rattle.store_place.proofs.place.Place.suits.Goals as goal

pub returns-then-protocol-eq-LATEST : goal.returns-then-protocol-eq-LATEST
returns-then-protocol-eq-LATEST c = latest_suits c.args.protocol.version c.args.self.now.words.now c.args.self.now.bytes.now c.if-protocol-eq-LATEST.true

pub returns-then-self : goal.returns-then-self
returns-then-self c = stored_short c.args.protocol.version c.args.self.now.words.now c.args.self.now.bytes.now c.if-protocol-eq-LATEST.false c.if-self.true

pub returns-else-self : goal.returns-else-self
returns-else-self c = long_suits c.args.protocol.version c.args.self.now.words.now c.args.self.now.bytes.now _ c.stamp.ensures.is c.if-protocol-eq-LATEST.false
