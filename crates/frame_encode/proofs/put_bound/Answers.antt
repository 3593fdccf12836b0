use Rattle.base_bytes.proofs.Puts.{put_on}
use Rattle.model_frame.specs.Writing.{body_bytes}
use Rattle.frame_encode.proofs.put_bound.Goals as goal

pub returns : goal.returns
unfolding body_bytes
returns c = put_on c.put_handle.ensures.put c.put_summary.ensures
