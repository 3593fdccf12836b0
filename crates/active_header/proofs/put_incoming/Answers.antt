use Rattle.model_frame.specs.Writing.{change_bytes}
use Rattle.base_bytes.proofs.Puts.{put_on}
use Rattle.active_header.proofs.put_incoming.Goals as goal

pub returns-in-None : goal.returns-in-None
unfolding change_bytes
returns-in-None c = rw c.in-None.is c.tagged.ensures.put

pub returns-in-Some : goal.returns-in-Some
unfolding change_bytes
returns-in-Some c = rw c.in-Some.is (put_on c.tagged-in-Some.ensures.put c.number.ensures.put)
