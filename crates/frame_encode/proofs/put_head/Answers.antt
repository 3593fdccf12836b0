use Rattle.base_bytes.proofs.Puts.{put_on}
use Rattle.frame_encode.proofs.put_head.Goals as goal

pub returns-clause-put : goal.returns-clause-put
returns-clause-put c = rw (← c.part_byte.ensures) (put_on (put_on (put_on c.put_handle.ensures.put c.number.ensures.put) c.number-2.ensures.put) (put_on c.byte.ensures.put c.number-3.ensures.put))
