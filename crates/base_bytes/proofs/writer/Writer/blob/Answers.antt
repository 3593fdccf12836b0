use Rattle.model_frame.specs.Writing.{blob_bytes}
use Rattle.base_bytes.proofs.Puts.{put_on}
use Rattle.base_bytes.proofs.writer.Writer.blob.Goals as goal

pub returns-clause-put : goal.returns-clause-put
unfolding blob_bytes
returns-clause-put c = put_on c.number.ensures.put c.bytes.ensures
