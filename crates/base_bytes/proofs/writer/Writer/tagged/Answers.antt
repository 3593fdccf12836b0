use Rattle.base_bytes.proofs.Puts.{put_on}
use Rattle.base_bytes.proofs.writer.Writer.tagged.Goals as goal

pub returns-clause-put : goal.returns-clause-put
returns-clause-put c = put_on c.byte.ensures.put c.number.ensures.put
