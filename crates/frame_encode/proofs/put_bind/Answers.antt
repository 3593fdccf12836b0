use Rattle.model_frame.specs.Writing.{body_bytes}
use Rattle.base_bytes.proofs.Puts.{put_on}
use Rattle.frame_encode.proofs.put_bind.Goals as goal

pub returns : goal.returns
unfolding body_bytes
returns c = put_on (put_on (put_on c.put_handle.ensures.put c.number.ensures.put) c.number-2.ensures.put) c.put_session.ensures
