use Rattle.model_frame.specs.Writing.{key_bytes}
use Rattle.base_bytes.proofs.Puts.{put_on}
use Rattle.frame_writer.proofs.put_session.Goals as goal

pub returns : goal.returns
unfolding key_bytes
returns c = put_on (put_on (put_on c.put_span.ensures.put c.put_span-2.ensures.put) c.put_span-3.ensures.put) c.put_span-4.ensures.put
