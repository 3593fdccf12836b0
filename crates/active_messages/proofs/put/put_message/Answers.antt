use Rattle.base_bytes.proofs.Puts.{put_on}
use Rattle.active_messages.proofs.put.put_message.Goals as goal

pub returns : goal.returns
returns c = put_on c.bytes.ensures c.bytes-2.ensures
