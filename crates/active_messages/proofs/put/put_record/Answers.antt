use Rattle.std.proofs.Common.{length-append}
use Rattle.base_bytes.proofs.Puts.{put_on}
use Rattle.active_messages.proofs.Putting.{put_recorded}
use Rattle.active_messages.proofs.put.put_record.Goals as goal

pub returns : goal.returns
returns c = put_recorded _ _ (length-append c.args.parts.now.first.now c.args.parts.now.rest.now) (put_on c.tagged.ensures.put c.number.ensures.put) c.put_message.ensures
