use Rattle.base_bytes.proofs.Puts.{put_on}
use Rattle.frame_writer.proofs.put_handle.Goals as goal

pub returns-clause-put : goal.returns-clause-put
returns-clause-put c = put_on c.byte.ensures.put c.number.ensures.put
