use Rattle.base_bytes.proofs.Puts.{put_on}
use Rattle.frame_encode.proofs.put_runs.Goals as goal

pub returns : goal.returns
returns c = put_on (put_on c.put_run.ensures.put c.number.ensures.put) c.put_run-2.ensures.put
