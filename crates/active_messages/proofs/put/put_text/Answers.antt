use Rattle.base_bytes.proofs.Puts.{put_on}
use Rattle.active_messages.proofs.put.put_text.Goals as goal

pub returns : goal.returns
returns c = put_on c.byte.ensures.put c.blob.ensures.put
