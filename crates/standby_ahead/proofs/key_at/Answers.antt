use Rattle.standby_ahead.proofs.Keys.{key_there}
use Rattle.standby_ahead.proofs.key_at.Goals as goal

pub returns : goal.returns
returns c = key_there _ _ _ _ _ c.place.ensures.is c.key.ensures
